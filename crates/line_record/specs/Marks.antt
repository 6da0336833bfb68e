-- What a story is, what becomes of it at an event, and what becomes of a flight.
use Rattle.std.specs.Prelude.{ℕ, ◌==◌, ◌&&◌, ◌||◌, Bool, true, false, List, Option, None, Some, if◌then◌else◌}
use Rattle.line_events.specs.declared.event.Answer.{Answer}
use Rattle.line_record.specs.declared.act.Act.{Act}
use Rattle.line_record.specs.declared.act.Act.TheVariants as acts
use Rattle.line_record.specs.declared.recorded.RecordedEvent.{RecordedEvent}
use Rattle.line_record.specs.declared.kind.StoryKind.{StoryKind}
use Rattle.line_record.specs.declared.kind.StoryKind.TheVariants as kinds
use Rattle.line_record.specs.declared.story.Story.{Story}
use Rattle.line_record.specs.declared.course.Course.{Course}
use Rattle.line_record.specs.declared.course.Fate.{Fate}
use Rattle.line_record.specs.declared.course.Fate.TheVariants as fates
use Rattle.line_record.specs.Kinds.{actor_of, takes_on, is_dropped, is_reported, is_declined, is_heeded, is_path, obeys_at}
use Rattle.line_record.specs.Lists.{changed_at}
use Rattle.line_record.specs.declared.kept.Kept.{Kept}
use Rattle.line_record.specs.KeptItems.{is_still}

-- # Stories

abbrev pub new_story : StoryKind → ℕ → ℕ → Story
new_story kind first person =
    record { kind = kind; first = first; person = person; reached = None; took = None; declined = None; waits = None; gathers = None; ended = None }

abbrev pub is_node : Option ℕ → ℕ → Bool
is_node None node = false
is_node (Some x) node = x == node

-- the first event of a kind, where this one may be it
abbrev pub or_first : Option ℕ → Bool → ℕ → Option ℕ
or_first (Some m) holds n = Some m
or_first None holds n = if holds then Some n else None

-- the last event of a kind, where this one may be it
abbrev pub or_last : Option ℕ → Bool → ℕ → Option ℕ
or_last before holds n = if holds then Some n else before

-- an event of a joining
abbrev pub joining_marked : ℕ → RecordedEvent → Story → Story
joining_marked n e story =
    record story {
      reached = or_last story.reached (is_node e.done story.person) n;
      took = or_last story.took (is_node e.took story.person) n;
      declined = or_first story.declined (is_declined e.answer) n;
    }

-- an event of an order
abbrev pub order_marked : ℕ → RecordedEvent → Story → Story
order_marked n e story =
    record story { reached = or_first story.reached (is_heeded e.answer && is_node (obeys_at e.act) story.person) n }

abbrev pub walk_marked : ℕ → RecordedEvent → Story → Story
walk_marked n e story = record story { reached = or_first story.reached (is_path e.answer) n }

-- what an event of a story says of it
abbrev pub marked_by : StoryKind → ℕ → RecordedEvent → Story → Story
marked_by kinds.Joining n e story = joining_marked n e story
marked_by kinds.Renewal n e story = joining_marked n e story
marked_by kinds.Order n e story = order_marked n e story
marked_by kinds.Walk n e story = walk_marked n e story
marked_by _ n e story = story

abbrev pub marked : ℕ → RecordedEvent → Story → Story
marked n e story = marked_by story.kind n e story

abbrev pub or_kept : Option Kept → Kept → Option Kept
or_kept None k = Some k
or_kept (Some old) k = Some old

-- a story of which a piece is gathered, or has ended
abbrev pub with_gathered : Kept → Story → Story
with_gathered k story =
    if is_still k.end then record story { gathers = Some k; ended = story.ended } else record story { gathers = None; ended = or_kept story.ended k }

-- a story of which something is kept, or has ended
abbrev pub with_kept : Kept → Story → Story
with_kept k story = if k.gathered then with_gathered k story else record story { waits = Some k }

-- a story of which nothing waits any more, since it left
abbrev pub left : Story → Story
left story = record story { waits = None }

-- the datagram of a story is handed up
abbrev pub came : ℕ → Story → Story
came n story = record story { reached = or_first story.reached true n }

-- # Flights

-- whether a flight is for a node: to all, or to nobody of the run, it is for each that hears it
abbrev pub is_for : Option ℕ → ℕ → Bool
is_for None node = true
is_for (Some x) node = x == node

-- what becomes of a flight that was not taken yet, at an answer
abbrev pub answered : ℕ → Answer → Fate
answered n answer = if takes_on answer then fates.WentOn n else (if is_reported answer then fates.Reported n else fates.Refused n)

-- whether a frame is accepted that is answered so, and its unit goes on or ends
abbrev pub is_accepted : Answer → Bool
is_accepted answer = takes_on answer || (is_reported answer || is_dropped answer)

-- a flight that was refused at an event
abbrev pub refused_at : ℕ → Fate
refused_at m = fates.Refused m

-- what becomes of a flight, where a node that it is for hears it: its first hearing counts, unless that was refused and a later one is accepted
abbrev pub fate_after : ℕ → Answer → Fate → Fate
fate_after n _ (fates.WentOn m) = fates.WentOn m
fate_after n _ (fates.Reported m) = fates.Reported m
fate_after n answer (fates.Refused m) = if is_accepted answer then answered n answer else fates.Refused m
fate_after n answer _ = answered n answer

abbrev pub fate_lost : ℕ → Fate → Fate
fate_lost n fates.Missed = fates.Lost n
fate_lost n fate = fate

abbrev pub heard : ℕ → ℕ → Answer → Course → Course
heard n node answer course =
    if is_for course.to node then record course { fate = fate_after n answer course.fate } else record course { overheard = true }

abbrev pub lost : ℕ → Course → Course
lost n course = record course { fate = fate_lost n course.fate }

abbrev pub lost_by : Act → ℕ → List Course → List Course
lost_by (acts.Lose flight) n courses = changed_at flight (lost n) courses
lost_by _ n courses = courses

-- what an event of this number does to the flights
abbrev pub courses_by : RecordedEvent → ℕ → List Course → List Course
courses_by e n courses = lost_by e.act n (changed_at e.came (heard n (actor_of e.act) e.answer) courses)
