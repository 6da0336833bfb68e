-- What is wrong with an event that a run does not take.
use Rattle.std.specs.Prelude.{ℕ, ◌+◌, ◌-◌, ◌==◌, ◌&&◌, Bool, List, [], ◌∷◌, length, min, max, Option, None, Some, codes}
use Rattle.std.specs.Prelude.{if◌then◌else◌, nat_le, nat_lt}
use Rattle.std.specs.List.{position, slice_get}
use Rattle.line_events.specs.declared.event.Event.{Event}
use Rattle.line_events.specs.declared.event.Event.TheVariants as events
use Rattle.line_script.specs.declared.report.Reason.{Reason}
use Rattle.line_script.specs.declared.report.Reason.TheVariants as reasons
use Rattle.line_script.specs.AnswerWords.{answer_word}
use Rattle.line_record.specs.declared.recorded.RecordedEvent.{RecordedEvent}
use Rattle.line_record.specs.Acts.{act_of}
use Rattle.line_record.specs.Kinds.{is_setup}
use Rattle.sentence_parts.specs.declared.part.Part.TheVariants.{Words, Number, Node, Octets}
use Rattle.sentence_parts.specs.Parts.{parts_text}
use Rattle.script_faults.specs.Findings.{FindingParts, finding_at, noted}
use Rattle.script_faults.specs.LineWords.{rest_at, word_at, word_length}
use Rattle.script_faults.specs.declared.run.Made.{Made}
use Rattle.script_faults.specs.declared.run.Named.{Named}
use Rattle.script_faults.specs.declared.run.Place.{Place}
use Rattle.script_faults.specs.declared.run.Place.TheVariants.{First, Second, Third}
use Rattle.script_faults.specs.declared.run.Wanted.TheVariants.{Near, Lost}
use Rattle.script_faults.specs.Runs.{Other, first_named, second_named, flight_named, made_row, node_with, row_of, joined_row, neighbours, sent_it, last_refusal}

-- A line with an event that is not taken, and what helps of the run before it: the nodes that were made, the events, how many flights
-- were sent and by whom the last, and the first event that is not part of the setup.
pub record Bad : Type 0 where
  pub line : List ℕ
  pub event : Event
  pub made : List Made
  pub events : List RecordedEvent
  pub flights : ℕ
  pub sender : ℕ
  pub other : Other

-- # Places

-- the place after a word and its space
unfoldable pub after_word : List ℕ → ℕ → ℕ
after_word line at = min (at + word_length (rest_at line at) + 1) (length line)

abbrev pub start_of : List ℕ → Place → ℕ
start_of line First = 0
start_of line Second = after_word line 0
start_of line Third = after_word line (after_word line 0)

abbrev pub found_from : List ℕ → ℕ → List ℕ → List ℕ → FindingParts
found_from line at message label = finding_at at (at + max (word_length (rest_at line at)) 1) message label

-- a word of the line is marked
unfoldable pub found : List ℕ → Place → List ℕ → List ℕ → FindingParts
found line place message label = found_from line (start_of line place) message label

-- # A node that is not there

unfoldable pub no_node_word : Bad → Named → FindingParts
no_node_word b named =
    found b.line named.place
    (parts_text (Words (codes "there is no node ") ∷ Number named.node ∷ []))
    (parts_text (Words (codes "nodes are 0 to ") ∷ Number (length b.made - 1) ∷ Words (codes " here") ∷ []))

unfoldable pub numbering_note : Bad → List ℕ
numbering_note b =
    parts_text
    (Words (codes "nodes are numbered from 0 in the order of their lines; node ") ∷ Number (length b.made - 1)
    ∷ Words (codes " is made in line ") ∷ Number (made_row b.made (length b.made - 1)) ∷ [])

abbrev pub no_node : Bad → Named → FindingParts
no_node b named = noted (numbering_note b) (no_node_word b named)

unfoldable pub for_a_meter : Bad → FindingParts
for_a_meter b =
    found b.line Second
    (parts_text (Words (codes "node 0 is the coordinator, and `") ∷ Octets (word_at b.line 0) ∷ Words (codes "` is for a meter") ∷ []))
    (parts_text (Words (codes "expected a meter, 1 to ") ∷ Number (length b.made - 1) ∷ []))

-- the first of the nodes that are named and not there
abbrev pub or_node : Option Named → Bad → FindingParts → FindingParts
or_node None b rest = rest
or_node (Some named) b rest = if nat_le (length b.made) named.node then no_node b named else rest

unfoldable pub node_finding : Bad → FindingParts
node_finding b = or_node (first_named b.event) b (or_node (second_named b.event) b (for_a_meter b))

-- # A setup that does not fit

unfoldable pub too_many_nodes : Bad → FindingParts
too_many_nodes b =
    found b.line First
    (parts_text (Words (codes "a line has at most 1,000 nodes") ∷ []))
    (parts_text (Words (codes "this would be node 1000") ∷ []))

unfoldable pub same_eui : Bad → ℕ → FindingParts
same_eui b node =
    found b.line Second
    (parts_text (Words (codes "node ") ∷ Number node ∷ Words (codes " has this EUI already") ∷ []))
    (parts_text (Words (codes "the same EUI") ∷ []))

unfoldable pub made_note : Bad → ℕ → List ℕ
made_note b node =
    parts_text (Words (codes "node ") ∷ Number node ∷ Words (codes " is made in line ") ∷ Number (made_row b.made node) ∷ [])

abbrev pub meter_by : Option ℕ → Bad → FindingParts
meter_by None b = too_many_nodes b
meter_by (Some node) b = noted (made_note b node) (same_eui b node)

unfoldable pub joined_from_start : Bad → FindingParts
joined_from_start b =
    found b.line Second
    (parts_text (Words (codes "node 0 is the coordinator, which is joined from the beginning") ∷ []))
    (parts_text (Words (codes "expected a meter") ∷ []))

unfoldable pub joined_already : Bad → ℕ → FindingParts
joined_already b meter = found b.line Second (parts_text (Node meter ∷ Words (codes " is joined already") ∷ [])) (parts_text [])

unfoldable pub joined_note : Bad → ℕ → List ℕ
joined_note b meter = parts_text (Words (codes "it was joined in line ") ∷ Number (joined_row b.made b.events meter) ∷ [])

abbrev pub depot_finding : Bad → ℕ → FindingParts
depot_finding b meter = if meter == 0 then joined_from_start b else noted (joined_note b meter) (joined_already b meter)

unfoldable pub not_joined_word : Bad → Place → ℕ → FindingParts
not_joined_word b place meter =
    found b.line place
    (parts_text (Node meter ∷ Words (codes " is not joined") ∷ []))
    (parts_text (Words (codes "`near` is for joined nodes") ∷ []))

unfoldable pub put_depot : ℕ → List ℕ
put_depot meter = parts_text (Words (codes "put `depot ") ∷ Number meter ∷ Words (codes "` above this line") ∷ [])

abbrev pub not_joined : Bad → Place → ℕ → FindingParts
not_joined b place meter = noted (put_depot meter) (not_joined_word b place meter)

unfoldable pub near_itself : Bad → FindingParts
near_itself b =
    found b.line Third
    (parts_text (Words (codes "a node is not near itself") ∷ []))
    (parts_text (Words (codes "the same node twice") ∷ []))

unfoldable pub near_already : Bad → ℕ → ℕ → FindingParts
near_already b x y =
    found b.line First
    (parts_text (Words (codes "nodes ") ∷ Number (min x y) ∷ Words (codes " and ") ∷ Number (max x y) ∷ Words (codes " are near already") ∷ []))
    (parts_text [])

unfoldable pub by_line : ℕ → List ℕ
by_line row = parts_text (Words (codes "by line ") ∷ Number row ∷ [])

unfoldable pub many_neighbours : Bad → Place → ℕ → FindingParts
many_neighbours b place node =
    found b.line place
    (parts_text (Words (codes "node ") ∷ Number node ∷ Words (codes " has 64 neighbours, and that is the most") ∷ []))
    (parts_text [])

abbrev pub full_finding : Bad → ℕ → ℕ → FindingParts
full_finding b x y = if nat_le 64 (neighbours b.events x) then many_neighbours b Second x else many_neighbours b Third y

abbrev pub near_by : ℕ → Bad → ℕ → ℕ → FindingParts
near_by row b x y = if nat_lt 0 row then noted (by_line row) (near_already b x y) else full_finding b x y

unfoldable pub near_finding : Bad → ℕ → ℕ → FindingParts
near_finding b x y =
    if x == y then near_itself b
    else (if joined_row b.made b.events x == 0 then not_joined b Second x
    else (if joined_row b.made b.events y == 0 then not_joined b Third y
    else near_by (row_of (Near x y) b.events) b x y))

unfoldable pub late_word : Bad → FindingParts
late_word b =
    found b.line First
    (parts_text (Words (codes "a setup line stands behind another kind of line") ∷ []))
    (parts_text (Words (codes "`") ∷ Octets (word_at b.line 0) ∷ Words (codes "` belongs above line ") ∷ Number b.other.row ∷ []))

unfoldable pub late_note : Bad → List ℕ
late_note b =
    parts_text
    (Words (codes "line ") ∷ Number b.other.row ∷ Words (codes ", `") ∷ Octets b.other.text ∷ Words (codes "`, is the first that is no setup") ∷ [])

unfoldable pub second_coordinator : Bad → FindingParts
second_coordinator b =
    found b.line First
    (parts_text (Words (codes "a second coordinator") ∷ []))
    (parts_text (Words (codes "a line has one") ∷ []))

unfoldable pub first_is_in : Bad → List ℕ
first_is_in b = parts_text (Words (codes "the first is in line ") ∷ Number (made_row b.made 0) ∷ [])

unfoldable pub no_coordinator : Bad → FindingParts
no_coordinator b =
    found b.line First
    (parts_text (Words (codes "the first event is not `coordinator`") ∷ []))
    (parts_text (Words (codes "expected `coordinator <eui> <key>` before it") ∷ []))

unfoldable pub no_fit : Bad → FindingParts
no_fit b = found b.line First (parts_text (Words (codes "the line does not fit the setup") ∷ [])) (parts_text [])

-- by the kind of the event
abbrev pub unfit : Event → Bad → FindingParts
unfit (events.Coordinator eui key) b = noted (first_is_in b) (second_coordinator b)
unfit (events.Meter eui psk) b = meter_by (node_with b.made eui) b
unfit (events.Depot node) b = depot_finding b node
unfit (events.Near x y cost) b = near_finding b x y
unfit _ b = no_fit b

-- whether a setup comes after another kind of event
abbrev pub is_late : Bad → Bool
is_late b = nat_lt 0 b.other.row && is_setup (act_of b.event)

unfoldable pub setup_finding : Bad → FindingParts
setup_finding b =
    if length b.made == 0 then no_coordinator b
    else (if is_late b then noted (late_note b) (late_word b)
    else unfit b.event b)

-- # A flight that is not there

unfoldable pub lost_word : Bad → ℕ → FindingParts
lost_word b flight =
    found b.line Second
    (parts_text (Words (codes "flight ") ∷ Number flight ∷ Words (codes " was lost") ∷ []))
    (parts_text (Words (codes "it can't come any more") ∷ []))

unfoldable pub none_sent : Bad → ℕ → FindingParts
none_sent b flight =
    found b.line Second
    (parts_text (Words (codes "there is no flight ") ∷ Number flight ∷ []))
    (parts_text (Words (codes "no flight was sent so far") ∷ []))

unfoldable pub not_so_many : Bad → ℕ → FindingParts
not_so_many b flight =
    found b.line Second
    (parts_text (Words (codes "there is no flight ") ∷ Number flight ∷ []))
    (parts_text (Words (codes "flights are 1 to ") ∷ Number b.flights ∷ Words (codes " here") ∷ []))

abbrev pub no_flight : Bad → ℕ → FindingParts
no_flight b flight = if b.flights == 0 then none_sent b flight else not_so_many b flight

-- the last flight
unfoldable pub last_note : Bad → ℕ → ℕ → List ℕ
last_note b place row =
    parts_text
    (Words (codes "flight ") ∷ Number b.flights ∷ Words (codes ", the last, was sent by node ") ∷ Number b.sender ∷ Words (codes " at event ")
    ∷ Number (place + 1) ∷ Words (codes ", line ") ∷ Number row ∷ [])

abbrev pub line_by : Option RecordedEvent → ℕ
line_by None = 0
line_by (Some e) = e.line

abbrev pub with_last_by : Option ℕ → Bad → FindingParts → FindingParts
with_last_by None b t = t
with_last_by (Some place) b t = noted (last_note b place (line_by (slice_get b.events place))) t

unfoldable pub with_last : Bad → FindingParts → FindingParts
with_last b t = with_last_by (position (sent_it b.flights) b.events) b t

-- the last refusal, which sent nothing
unfoldable pub refusal_note : ℕ → RecordedEvent → List ℕ
refusal_note number e =
    parts_text
    (Words (codes "event ") ∷ Number number ∷ Words (codes ", line ") ∷ Number e.line ∷ Words (codes ", was answered `no ") ∷ Words (answer_word e.answer)
    ∷ Words (codes "`, and sent nothing") ∷ [])

abbrev pub with_refusal_by : Option RecordedEvent → ℕ → FindingParts → FindingParts
with_refusal_by None number t = t
with_refusal_by (Some e) number t = noted (refusal_note number e) t

abbrev pub with_refusal_at : ℕ → List RecordedEvent → FindingParts → FindingParts
with_refusal_at number es t = if number == 0 then t else with_refusal_by (slice_get es (number - 1)) number t

unfoldable pub with_refusal : Bad → FindingParts → FindingParts
with_refusal b t = with_refusal_at (last_refusal b.events) b.events t

abbrev pub flight_by : ℕ → ℕ → Bad → FindingParts
flight_by row flight b =
    if nat_lt 0 row then noted (by_line row) (lost_word b flight) else with_refusal b (with_last b (no_flight b flight))

unfoldable pub flight_finding : Bad → FindingParts
flight_finding b = flight_by (row_of (Lost (flight_named b.event)) b.events) (flight_named b.event) b

-- # Too many events

unfoldable pub too_many : Bad → FindingParts
too_many b =
    found b.line First
    (parts_text (Words (codes "a script has at most 50,000 events") ∷ []))
    (parts_text (Words (codes "this would be event 50,001") ∷ []))

unfoldable pub cut_it : List ℕ
cut_it = parts_text (Words (codes "cut the script in two") ∷ [])

-- by the reason why the run does not take it
unfoldable pub event_finding : Reason → Bad → FindingParts
event_finding reasons.Events b = noted cut_it (too_many b)
event_finding reasons.Node b = node_finding b
event_finding reasons.Flight b = flight_finding b
event_finding _ b = setup_finding b
