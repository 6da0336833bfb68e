-- What became of a flight, in words.
use Rattle.std.specs.Prelude.{ℕ, ◌+◌, ◌==◌, ◌&&◌, Bool, true, false, not, nat_le, List, [], ◌∷◌, ◌++◌, codes, slice_get, take}
use Rattle.std.specs.Prelude.{Option, None, Some, if◌then◌else◌}
use Rattle.frame_facts.specs.declared.gist.FrameTarget.{FrameTarget}
use Rattle.frame_facts.specs.declared.gist.FrameTarget.TheVariants as targets
use Rattle.frame_facts.specs.declared.kind.PayloadKind.{PayloadKind}
use Rattle.frame_facts.specs.declared.kind.PayloadKind.TheVariants as kinds
use Rattle.frame_facts.specs.Kinds.{kind_word}
use Rattle.line_script.specs.AnswerWords.{answer_word}
use Rattle.line_record.specs.declared.recorded.RecordedEvent.{RecordedEvent}
use Rattle.line_record.specs.declared.recorded.RecordedFlight.{RecordedFlight}
use Rattle.line_record.specs.declared.course.Course.{Course}
use Rattle.line_record.specs.declared.course.Fate.{Fate}
use Rattle.line_record.specs.declared.course.Fate.TheVariants as fates
use Rattle.node_rules.specs.declared.shown.ShownPeer.{ShownPeer}
use Rattle.frame_facts.specs.declared.detail.FlightMore.{FlightMore}
use Rattle.line_record.specs.Counters.{flight_with}
use Rattle.line_record.specs.Kinds.{actor_of, takes_counter}
use Rattle.line_record.specs.RunRecords.{numbered}
use Rattle.line_record.specs.Verdicts.{went_on}
use Rattle.sentence_parts.specs.declared.part.Part.TheVariants.{Words, Number, Node, Place}
use Rattle.sentence_parts.specs.Parts.{parts_text}
use Rattle.sentence_parts.specs.Whos.{who_of}
use Rattle.story_accounts.specs.Indexes.{hearings_at, restart_at}
use Rattle.story_accounts.specs.PeerMarks.{mark_in}
use Rattle.story_accounts.specs.Accounts.{RunAccount, answer_at, why}

abbrev pub two_words : List ℕ → List ℕ → List ℕ
two_words first second = parts_text (Words first ∷ Words second ∷ [])

-- # Flights to all

abbrev pub hearer_by : Option RecordedEvent → ℕ → List ℕ
hearer_by None event = []
hearer_by (Some e) event =
    parts_text
    (Node (actor_of e.act) ∷ Words (codes " ") ∷ Words (answer_word e.answer) ∷ Words (codes " (event ") ∷ Number event ∷ Words (codes ")") ∷ [])

-- a node that heard a flight, by the event, and what it answered
unfoldable pub hearer_text : RunAccount → ℕ → List ℕ
hearer_text a event = hearer_by (numbered a.events event) event

abbrev pub separator : ℕ → List ℕ
separator place = if place == 0 then [] else codes "; "

-- the same of several events, from this place in their list on
abbrev pub hearers_from : RunAccount → ℕ → List ℕ → List ℕ
hearers_from a place [] = []
hearers_from a place (event ∷ events) = separator place ++ (hearer_text a event ++ hearers_from a (place + 1) events)

-- what a flight to all is
abbrev pub what_word : PayloadKind → List ℕ
what_word kinds.RouteRequest = codes "request"
what_word kinds.Broadcast = codes "broadcast"
what_word kind = kind_word kind

abbrev pub lost_words : Fate → List ℕ
lost_words (fates.Lost event) = codes ", it was lost"
lost_words _ = []

-- whether a flight never came to the node that it is for
abbrev pub is_mute : Fate → Bool
is_mute fates.Missed = true
is_mute (fates.Lost event) = true
is_mute _ = false

unfoldable pub unreached_text : ℕ → RecordedFlight → Fate → List ℕ
unreached_text number flight fate =
    parts_text
    (Words (codes "the ") ∷ Words (what_word flight.kind) ∷ Words (codes " (flight ") ∷ Number number ∷ Words (codes " of ") ∷ Node flight.from
    ∷ Words (codes ") reached no node") ∷ Words (lost_words fate) ∷ [])

-- with the nodes that heard it at these events
unfoldable pub refused_by_all_text : RunAccount → ℕ → RecordedFlight → List ℕ → List ℕ
refused_by_all_text a number flight events =
    parts_text
    (Words (codes "the ") ∷ Words (what_word flight.kind) ∷ Words (codes " (flight ") ∷ Number number
    ∷ Words (codes ") was refused by all that heard it: ") ∷ [])
    ++ hearers_from a 0 events

-- a flight to all that nobody took: the first three nodes that heard it stand for all
abbrev pub unheard_text : RunAccount → ℕ → RecordedFlight → Fate → List ℕ
unheard_text a number flight fate =
    if is_mute fate then unreached_text number flight fate else refused_by_all_text a number flight (take 3 (hearings_at a.index number))

-- # Flights to one node

unfoldable pub way_text : RunAccount → ℕ → RecordedFlight → List ℕ
way_text a number flight =
    parts_text
    (Words (codes "flight ") ∷ Number number ∷ Words (codes " from ") ∷ Node flight.from ∷ Words (codes " to ")
    ∷ Place (who_of flight.target a.homes a.euis) ∷ [])

abbrev pub missed_words : Bool → List ℕ
missed_words true = codes " was never delivered to it (heard by others)"
missed_words false = codes " was never delivered to it"

-- the marks of a node
abbrev pub marks_or_none : Option (List ShownPeer) → List ShownPeer
marks_or_none None = []
marks_or_none (Some peers) = peers

abbrev pub marks_at : RunAccount → ℕ → List ShownPeer
marks_at a node = marks_or_none (slice_get a.marks node)

-- whether a node takes the counter of a frame at an event
abbrev pub is_taken_by : Option RecordedEvent → ℕ → Bool
is_taken_by None node = false
is_taken_by (Some e) node = takes_counter e.answer && (actor_of e.act == node)

-- the first of these events at which a node takes the counter of a frame, 0 if there is none
abbrev pub taken_in : RunAccount → ℕ → List ℕ → ℕ
taken_in a node [] = 0
taken_in a node (event ∷ events) = if is_taken_by (numbered a.events event) node then event else taken_in a node events

unfoldable pub overtaker_text : ℕ → ℕ → List ℕ
overtaker_text flight event =
    parts_text (Words (codes " (flight ") ∷ Number flight ∷ Words (codes ", event ") ∷ Number event ∷ Words (codes ")") ∷ [])

abbrev pub restart_text : ℕ → List ℕ
restart_text event =
    if event == 0 then [] else parts_text (Words (codes " that it has since its restart (event ") ∷ Number event ∷ Words (codes ")") ∷ [])

-- what raised a mark of a node: a flight that it took at an event, or its restart
abbrev pub raised_by : ℕ → ℕ → RunAccount → ℕ → List ℕ
raised_by event flight a node = if event == 0 then restart_text (restart_at a.index node) else overtaker_text flight event

abbrev pub raised_text : ℕ → RunAccount → ℕ → List ℕ
raised_text flight a node = raised_by (taken_in a node (hearings_at a.index flight)) flight a node

unfoldable pub refusing_text : ℕ → ℕ → List ℕ
refusing_text counter mark =
    parts_text (Words (codes ", and would be refused: its counter ") ∷ Number counter ∷ Words (codes " is not above the mark ") ∷ Number mark ∷ [])

abbrev pub would_by : Option ℕ → FlightMore → RunAccount → ℕ → List ℕ
would_by None more a node = []
would_by (Some mark) more a node =
    if nat_le more.counter mark then refusing_text more.counter mark ++ raised_text (flight_with more.from mark a.counters) a node else []

-- whether a flight would be refused by the node that it is for, by the mark that this node has of its sender at the end
abbrev pub would_at : Option ℕ → FlightMore → RunAccount → List ℕ
would_at None more a = []
would_at (Some node) more a = if more.sealed then would_by (mark_in more.from (marks_at a node)) more a node else []

abbrev pub would_with : Option FlightMore → Option ℕ → RunAccount → List ℕ
would_with None to a = []
would_with (Some more) to a = would_at to more a

abbrev pub would_text : RunAccount → ℕ → Option ℕ → List ℕ
would_text a number to = would_with (numbered a.more number) to a

unfoldable pub missed_text : RunAccount → ℕ → RecordedFlight → Course → List ℕ
missed_text a number flight course = two_words (way_text a number flight) (missed_words course.overheard) ++ would_text a number course.to

unfoldable pub lost_text : RunAccount → ℕ → RecordedFlight → ℕ → List ℕ
lost_text a number flight event =
    parts_text (Words (way_text a number flight) ∷ Words (codes " was lost (event ") ∷ Number event ∷ Words (codes ")") ∷ [])

unfoldable pub refused_text : RunAccount → ℕ → ℕ → List ℕ
refused_text a number event =
    parts_text
    (Words (codes "flight ") ∷ Number number ∷ Words (codes ", event ") ∷ Number event ∷ Words (codes ", ") ∷ Words (answer_at a event)
    ∷ Words (codes ": ") ∷ Words (why a event) ∷ [])

unfoldable pub reported_text : RunAccount → ℕ → List ℕ
reported_text a event = parts_text (Words (why a event) ∷ Words (codes " (event ") ∷ Number event ∷ Words (codes ")") ∷ [])

unfoldable pub taken_text : ℕ → ℕ → List ℕ
taken_text number event =
    parts_text
    (Words (codes "the last of it, flight ") ∷ Number number ∷ Words (codes ", was taken at event ") ∷ Number event
    ∷ Words (codes "; nothing followed") ∷ [])

abbrev pub single_text : Fate → RunAccount → ℕ → RecordedFlight → Course → List ℕ
single_text fates.Missed a number flight course = missed_text a number flight course
single_text (fates.Lost event) a number flight course = lost_text a number flight event
single_text (fates.Refused event) a number flight course = refused_text a number event
single_text (fates.Reported event) a number flight course = reported_text a event
single_text (fates.WentOn event) a number flight course = taken_text number event

-- # Any flight

abbrev pub is_to_all : FrameTarget → Bool
is_to_all targets.All = true
is_to_all _ = false

abbrev pub found_text : RunAccount → ℕ → RecordedFlight → Course → List ℕ
found_text a number flight course =
    if is_to_all flight.target && not (went_on course.fate) then unheard_text a number flight course.fate
    else single_text course.fate a number flight course

abbrev pub fate_by : Option RecordedFlight → Option Course → RunAccount → ℕ → List ℕ
fate_by None course a number = codes "nothing went out"
fate_by (Some flight) None a number = codes "nothing went out"
fate_by (Some flight) (Some course) a number = found_text a number flight course

-- what became of a flight, by its number from 1
unfoldable pub fate_text : RunAccount → ℕ → List ℕ
fate_text a flight = fate_by (numbered a.flights flight) (numbered a.courses flight) a flight
