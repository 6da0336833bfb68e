-- What became of a story.
use Rattle.std.specs.Prelude.{ℕ, ◌+◌, ◌==◌, ◌&&◌, ◌||◌, Bool, true, false, not, List, [], ◌∷◌, is_some, replicate, Option, None, Some, if◌then◌else◌}
use Rattle.line_events.specs.declared.event.Answer.{Answer}
use Rattle.line_events.specs.declared.event.Answer.TheVariants as answers
use Rattle.line_record.specs.declared.recorded.RecordedEvent.{RecordedEvent}
use Rattle.line_record.specs.declared.kind.StoryKind.{StoryKind}
use Rattle.line_record.specs.declared.kind.StoryKind.TheVariants as kinds
use Rattle.line_record.specs.declared.story.Story.{Story}
use Rattle.line_record.specs.declared.kept.Kept.{Kept}
use Rattle.line_record.specs.declared.course.Course.{Course}
use Rattle.line_record.specs.declared.course.Fate.{Fate}
use Rattle.line_record.specs.declared.course.Fate.TheVariants as fates
use Rattle.line_record.specs.declared.ends.Ends.{Ends}
use Rattle.line_record.specs.declared.verdict.Verdict.{Verdict}
use Rattle.line_record.specs.declared.verdict.Verdict.TheVariants as verdicts
use Rattle.line_record.specs.Kinds.{takes_on, is_reported}
use Rattle.line_record.specs.Lists.{changed_at}

-- # The ends of a story: its last flight, and the first with its datagram that did not go on

abbrev pub no_ends : Ends
no_ends = record { last = 0; borne = 0; bears = false; broken = 0 }

abbrev pub went_on : Fate → Bool
went_on (fates.WentOn n) = true
went_on _ = false

-- the first number that is not 0
abbrev pub first_nonzero : ℕ → ℕ → ℕ
first_nonzero before n = if before == 0 then n else before

-- one more flight that carries the datagram, or a piece of it
abbrev pub with_bearer : ℕ → Bool → Ends → Ends
with_bearer n true ends = record { last = n; borne = n; bears = true; broken = ends.broken }
with_bearer n false ends = record { last = n; borne = n; bears = true; broken = first_nonzero ends.broken n }

abbrev pub with_flight : ℕ → Course → Ends → Ends
with_flight n course ends =
    if course.bears then with_bearer n (went_on course.fate) ends
    else record { last = n; borne = ends.borne; bears = ends.bears; broken = ends.broken }

abbrev pub ends_after : ℕ → Course → List Ends → List Ends
ends_after n course ends = changed_at course.story (with_flight n course) ends

-- those of all stories, by the flights from this number on
abbrev pub ends_from : ℕ → List Course → List Ends → List Ends
ends_from n [] ends = ends
ends_from n (course ∷ courses) ends = ends_from (n + 1) courses (ends_after n course ends)

-- the ends of this many stories
abbrev pub ends_of : ℕ → List Course → List Ends
ends_of count courses = ends_from 1 courses (replicate count no_ends)

-- # Verdicts

-- whether the event of a story was not refused
abbrev pub is_begun : Answer → Bool
is_begun answers.Sent = true
is_begun answers.Waiting = true
is_begun answers.Asked = true
is_begun answers.Challenged = true
is_begun answers.Activated = true
is_begun answers.Ordered = true
is_begun answers.Kicked = true
is_begun answers.Traced = true
is_begun _ = false

-- a datagram: the first of the flights with it that did not go on, or what came last
abbrev pub unreached_datagram : Ends → Verdict
unreached_datagram ends =
    if ends.bears then (if ends.broken == 0 then verdicts.Loose ends.last else verdicts.Ended ends.broken) else verdicts.NeverLeft ends.last

abbrev pub unreached_joining : Option ℕ → Option ℕ → ℕ → Verdict
unreached_joining (Some event) declined last = verdicts.TookOnly event last
unreached_joining None (Some event) last = verdicts.Declined event
unreached_joining None None last = verdicts.Loose last

-- an order of which no message went out, and none waits or waited
abbrev pub unreached_order : ℕ → Option Kept → Verdict
unreached_order last waits = if (last == 0) && not (is_some waits) then verdicts.NotTold else verdicts.Loose last

-- of a story that did not reach its end
abbrev pub unreached : StoryKind → Story → Ends → Verdict
unreached kinds.Datagram story ends = unreached_datagram ends
unreached kinds.Joining story ends = unreached_joining story.took story.declined ends.borne
unreached kinds.Renewal story ends = unreached_joining story.took story.declined ends.borne
unreached kinds.Order story ends = unreached_order ends.borne story.waits
unreached kinds.Walk story ends = verdicts.Loose ends.last
unreached _ story ends = verdicts.Nothing

abbrev pub reached_or : Option ℕ → Verdict → Verdict
reached_or (Some event) verdict = verdicts.Reached event
reached_or None verdict = verdict

abbrev pub injected : Bool → Answer → Verdict
injected true _ = verdicts.Forged
injected false answer = if takes_on answer || is_reported answer then verdicts.Taken else verdicts.Stopped

-- whether a story can fail to begin
abbrev pub is_asked : StoryKind → Bool
is_asked kinds.Datagram = true
is_asked kinds.Joining = true
is_asked kinds.Renewal = true
is_asked kinds.Order = true
is_asked kinds.Walk = true
is_asked _ = false

abbrev pub asked_verdict : StoryKind → Story → Ends → RecordedEvent → Verdict
asked_verdict kind story ends e =
    if is_asked kind && not (is_begun e.answer) then verdicts.NotBegun else reached_or story.reached (unreached kind story ends)

abbrev pub verdict_by : StoryKind → Story → Ends → RecordedEvent → Verdict
verdict_by kinds.Injection story ends e = injected e.forged e.answer
verdict_by kind story ends e = asked_verdict kind story ends e

-- the verdict of a story, by its flights that did not go on and the event that it begins with
abbrev pub verdict_of : Story → Ends → RecordedEvent → Verdict
verdict_of story ends e = verdict_by story.kind story ends e

-- whether a verdict is good, where one asks that of it
abbrev pub is_good : Verdict → Option Bool
is_good (verdicts.Reached event) = Some true
is_good verdicts.Stopped = Some true
is_good verdicts.NotTold = None
is_good verdicts.Taken = None
is_good verdicts.Nothing = None
is_good _ = Some false
