-- What became of a story, in words.
use Rattle.std.specs.Prelude.{ℕ, ◌-◌, ◌==◌, Bool, true, false, List, [], ◌∷◌, ◌++◌, codes, drop, length, take}
use Rattle.std.specs.Prelude.{Option, None, Some, if◌then◌else◌}
use Rattle.std.specs.Str.{bytes_eq}
use Rattle.frame_facts.specs.declared.gist.Gist.{Gist}
use Rattle.frame_facts.specs.declared.gist.Gist.TheVariants as gists
use Rattle.line_record.specs.declared.act.Act.{Act}
use Rattle.line_record.specs.declared.act.Act.TheVariants as acts
use Rattle.line_record.specs.declared.recorded.RecordedEvent.{RecordedEvent}
use Rattle.line_record.specs.declared.recorded.RecordedFlight.{RecordedFlight}
use Rattle.line_record.specs.declared.kind.StoryKind.{StoryKind}
use Rattle.line_record.specs.declared.kind.StoryKind.TheVariants as kinds
use Rattle.line_record.specs.declared.story.Story.{Story}
use Rattle.line_record.specs.declared.verdict.Verdict.{Verdict}
use Rattle.line_record.specs.declared.verdict.Verdict.TheVariants as verdicts
use Rattle.line_record.specs.RunRecords.{numbered}
use Rattle.sentence_parts.specs.declared.part.Part.TheVariants.{Words, Number, Node}
use Rattle.sentence_parts.specs.Parts.{parts_text}
use Rattle.line_record.specs.declared.kept.Kept.{Kept}
use Rattle.line_record.specs.declared.kept.KeptEnd.{KeptEnd}
use Rattle.line_record.specs.declared.kept.KeptEnd.TheVariants as kept_ends
use Rattle.story_accounts.specs.Indexes.{broken_at}
use Rattle.story_accounts.specs.Accounts.{RunAccount, answer_at, verdict_at, why}
use Rattle.story_accounts.specs.Fates.{fate_text, two_words}
use Rattle.story_accounts.specs.Waits.{cause_text, clock_at, loose_text}

-- # Datagrams that never left

unfoldable pub until_text : ℕ → List ℕ → ℕ → List ℕ
until_text node what event =
    parts_text
    (Words (codes "did not come: it waited for a route until ") ∷ Node node ∷ Words what ∷ Words (codes " (event ") ∷ Number event
    ∷ Words (codes "); ") ∷ [])

unfoldable pub aged_text : ℕ → ℕ → List ℕ
aged_text event seconds =
    parts_text
    (Words (codes "did not come: it waited for a route for ") ∷ Number seconds ∷ Words (codes " s and was dropped (event ") ∷ Number event
    ∷ Words (codes "); ") ∷ [])

-- how the wait of a datagram ended
unfoldable pub wait_text : KeptEnd → ℕ → List ℕ
wait_text (kept_ends.Aged event seconds) node = aged_text event seconds
wait_text (kept_ends.Restarted event) node = until_text node (codes " restarted") event
wait_text (kept_ends.Left event) node = until_text node (codes " left") event
wait_text (kept_ends.Halted event) node = until_text node (codes " lost power") event
wait_text kept_ends.Still node = codes "did not come: it waits for a route still; "

abbrev pub never_left_by : Option Kept → RunAccount → Story → List ℕ
never_left_by None a story = codes "did not come: nothing went out"
never_left_by (Some k) a story = wait_text k.end k.node ++ cause_text a story k

abbrev pub never_left_text : RunAccount → Story → List ℕ
never_left_text a story = never_left_by story.waits a story

-- # Datagrams that left

-- a piece that a node had gathered, and how it ended
unfoldable pub piece_until : Kept → List ℕ → ℕ → List ℕ
piece_until k what event =
    parts_text
    (Node k.node ∷ Words what ∷ Words (codes " (event ") ∷ Number event ∷ Words (codes "), and a piece that it had gathered ended (flight ")
    ∷ Number k.flight ∷ Words (codes ", event ") ∷ Number k.event ∷ Words (codes ")") ∷ [])

unfoldable pub piece_aged : Kept → ℕ → ℕ → List ℕ
piece_aged k event seconds =
    parts_text
    (Words (codes "a piece that ") ∷ Node k.node ∷ Words (codes " had gathered ended after ") ∷ Number seconds ∷ Words (codes " s (event ")
    ∷ Number event ∷ Words (codes ", taken at event ") ∷ Number k.event ∷ Words (codes ")") ∷ [])

unfoldable pub piece_text : KeptEnd → Kept → List ℕ
piece_text (kept_ends.Aged event seconds) k = piece_aged k event seconds
piece_text (kept_ends.Restarted event) k = piece_until k (codes " restarted") event
piece_text (kept_ends.Left event) k = piece_until k (codes " left") event
piece_text (kept_ends.Halted event) k = piece_until k (codes " lost power") event
piece_text kept_ends.Still k = []

abbrev pub gathered_words : Option Kept → List ℕ
gathered_words None = []
gathered_words (Some k) = codes "a piece is missing: "

-- what is said of gathered pieces before a flight that did not go on
unfoldable pub before_text : Option Kept → Option Kept → List ℕ
before_text None gathers = gathered_words gathers
before_text (Some k) gathers = piece_text k.end k ++ codes "; "

unfoldable pub rest_at : Kept → List ℕ
rest_at k = parts_text (Words (codes "the rest is gathered at ") ∷ Node k.node ∷ Words (codes " (event ") ∷ Number k.event ∷ Words (codes ")") ∷ [])

unfoldable pub rest_text : List ℕ → Option Kept → List ℕ
rest_text before None = []
rest_text before (Some k) = before ++ rest_at k

unfoldable pub more_text : ℕ → List ℕ
more_text more = if more == 0 then [] else parts_text (Words (codes " (and ") ∷ Number more ∷ Words (codes " more)") ∷ [])

-- a datagram whose flight did not go on, and how many more did not
unfoldable pub ended_text : RunAccount → Story → ℕ → ℕ → List ℕ
ended_text a story number flight =
    codes "did not come: "
    ++ (before_text story.ended story.gathers ++ (fate_text a flight ++ more_text (length (broken_at a.index number) - 1)))

-- a datagram of which each flight went on
abbrev pub pieces_by : Option Kept → Option Kept → RunAccount → ℕ → List ℕ
pieces_by None None a number = loose_text a number
pieces_by None (Some k) a number = rest_at k
pieces_by (Some k) gathers a number = piece_text k.end k ++ rest_text (codes "; ") gathers

unfoldable pub pieces_text : RunAccount → Story → ℕ → List ℕ
pieces_text a story number = codes "did not come: " ++ pieces_by story.ended story.gathers a number

abbrev pub hops_left : Gist → ℕ
hops_left (gists.Bears hops) = hops
hops_left _ = 15

abbrev pub hops_by : Option RecordedFlight → ℕ
hops_by None = 0
hops_by (Some flight) = 15 - hops_left flight.gist

-- the flight that is delivered at an event, 0 where none is
abbrev pub delivered : Act → ℕ
delivered (acts.Deliver flight node cost) = flight
delivered _ = 0

-- the hops over which what comes by a flight was sent on
abbrev pub hops_of : RunAccount → RecordedEvent → ℕ
hops_of a e = hops_by (numbered a.flights (delivered e.act))

abbrev pub hops_word : ℕ → List ℕ
hops_word hops = if hops == 1 then codes " hop" else codes " hops"

-- over how many hops a datagram came; 0 where injected octets brought it
unfoldable pub over_text : ℕ → List ℕ
over_text hops =
    if hops == 0 then parts_text (Words (codes ", by injected octets") ∷ [])
    else parts_text (Words (codes ", over ") ∷ Number hops ∷ Words (hops_word hops) ∷ [])

unfoldable pub later_text : ℕ → List ℕ
later_text seconds = if seconds == 0 then [] else parts_text (Words (codes ", ") ∷ Number seconds ∷ Words (codes " s later") ∷ [])

unfoldable pub came_at_text : RunAccount → Story → ℕ → RecordedEvent → List ℕ
came_at_text a story event e =
    (parts_text (Words (codes "came at event ") ∷ Number event ∷ []) ++ over_text (hops_of a e)) ++ later_text (e.clock - clock_at a story.first)

abbrev pub came_by : Option RecordedEvent → RunAccount → Story → ℕ → List ℕ
came_by None a story event = []
came_by (Some e) a story event = came_at_text a story event e

abbrev pub came_text : RunAccount → Story → ℕ → List ℕ
came_text a story event = came_by (numbered a.events event) a story event

-- # Other stories

abbrev pub at_text : List ℕ → ℕ → List ℕ
at_text what event = parts_text (Words what ∷ Number event ∷ [])

abbrev pub obeyed_text : ℕ → ℕ → List ℕ
obeyed_text node event = if node == 0 then codes "done" else at_text (codes "heard at event ") event

abbrev pub reached_by : StoryKind → RunAccount → Story → ℕ → List ℕ
reached_by kinds.Datagram a story event = came_text a story event
reached_by kinds.Order a story event = obeyed_text story.person event
reached_by kinds.Walk a story event = at_text (codes "answered at event ") event
reached_by _ a story event = at_text (codes "done at event ") event

abbrev pub failed_words : StoryKind → List ℕ
failed_words kinds.Datagram = codes "did not come: "
failed_words kinds.Order = codes "not heard: "
failed_words kinds.Walk = codes "not answered: "
failed_words _ = codes "not done: "

abbrev pub is_datagram : StoryKind → Bool
is_datagram kinds.Datagram = true
is_datagram _ = false

-- # Stories that went on and did not end

abbrev pub failed_text : RunAccount → StoryKind → ℕ → List ℕ
failed_text a kind number = two_words (failed_words kind) (loose_text a number)

abbrev pub loose_verdict_text : RunAccount → Story → ℕ → List ℕ
loose_verdict_text a story number = if is_datagram story.kind then pieces_text a story number else failed_text a story.kind number

abbrev pub refused_prefix : List ℕ
refused_prefix = codes "refused: "

-- a sentence without the word that it is a refusal
unfoldable pub bare : List ℕ → List ℕ
bare words = if bytes_eq (take (length refused_prefix) words) refused_prefix then drop (length refused_prefix) words else words

abbrev pub not_begun_words : StoryKind → List ℕ
not_begun_words kinds.Datagram = codes "was not sent: "
not_begun_words kinds.Walk = codes "was not asked: "
not_begun_words _ = codes "did not begin: "

abbrev pub is_order : StoryKind → Bool
is_order kinds.Order = true
is_order _ = false

-- a story whose first event was refused
unfoldable pub not_begun_text : RunAccount → Story → List ℕ
not_begun_text a story =
    if is_order story.kind then why a story.first
    else two_words (not_begun_words story.kind) (bare (why a story.first))

unfoldable pub took_text : RunAccount → Story → ℕ → ℕ → List ℕ
took_text a story number event =
    parts_text
    (Node story.person ∷ Words (codes " took its keys at event ") ∷ Number event ∷ Words (codes ", but the coordinator does not know it: ")
    ∷ Words (loose_text a number) ∷ [])

abbrev pub declined_text : ℕ → List ℕ
declined_text event = parts_text (Words (codes "declined at event ") ∷ Number event ∷ Words (codes ": the meter was not allowed") ∷ [])

abbrev pub stopped_text : RunAccount → ℕ → List ℕ
stopped_text a event = parts_text (Words (codes "refused: ") ∷ Words (answer_at a event) ∷ [])

abbrev pub octets_taken_text : RunAccount → ℕ → List ℕ
octets_taken_text a event =
    parts_text (Words (codes "taken: ") ∷ Words (answer_at a event) ∷ Words (codes " (equal to a frame of this run, or plain)") ∷ [])

abbrev pub forged_text : RunAccount → ℕ → List ℕ
forged_text a event = parts_text (Words (codes "FORGED: accepted as ") ∷ Words (answer_at a event) ∷ [])

-- # Verdicts

abbrev pub outcome_by : Verdict → RunAccount → ℕ → Story → List ℕ
outcome_by verdicts.Nothing a number story = []
outcome_by verdicts.NotBegun a number story = not_begun_text a story
outcome_by (verdicts.Reached event) a number story = reached_by story.kind a story event
outcome_by (verdicts.NeverLeft last) a number story = never_left_text a story
outcome_by (verdicts.Ended flight) a number story = ended_text a story number flight
outcome_by (verdicts.Declined event) a number story = declined_text event
outcome_by (verdicts.TookOnly event last) a number story = took_text a story number event
outcome_by (verdicts.Loose last) a number story = loose_verdict_text a story number
outcome_by verdicts.NotTold a number story = why a story.first
outcome_by verdicts.Stopped a number story = stopped_text a story.first
outcome_by verdicts.Taken a number story = octets_taken_text a story.first
outcome_by verdicts.Forged a number story = forged_text a story.first

abbrev pub outcome_of : Option Story → RunAccount → ℕ → List ℕ
outcome_of None a number = []
outcome_of (Some story) a number = outcome_by (verdict_at a number) a number story

-- the verdict of a story, in words
unfoldable pub outcome_text : RunAccount → ℕ → List ℕ
outcome_text a number = outcome_of (numbered a.stories number) a number
