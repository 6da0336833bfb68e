-- The worked rows of further reach, with plain ciphers.
use Rattle.std.specs.Prelude.{◌≡◌, ℕ, List, [], ◌∷◌, ◌++◌, map, drop, Option, Some}
use Rattle.std.specs.Option.{option_map}
use Rattle.line_events.specs.declared.event.Answer.{Answer}
use Rattle.line_events.specs.declared.event.Answer.TheVariants as answers
use Rattle.line_events.specs.declared.event.Event.{Event}
use Rattle.line_events.specs.declared.event.Event.TheVariants.{Coordinator, Meter, Depot, Near, Send, Deliver, Tick, Break, Checks, Bcast, Scan, Choose, Path}
use Rattle.line_events.specs.declared.happenings.AgentLine.{AgentLine}
use Rattle.line_events.specs.declared.happenings.BroadcastUp.{BroadcastUp}
use Rattle.line_events.specs.declared.happenings.PathLine.{PathLine}
use Rattle.line_rules.specs.Runs.{Entry, one_of, run}
use Rattle.line_rules.specs.Worlds.{Flight, start, flight_at}
use Rattle.worked_scripts.specs.Scripts.{plain, eui, group_key, pair_key, two_meters, world_behind, counted, Counted}

-- the answers after this many events, and what was counted
abbrev pub line_answers : ℕ → List Event → List Answer
line_answers count events = map (λ (x : Entry). x.trace.happenings.answer) (drop count (run plain start events))

abbrev pub line_counts : List Event → Counted
line_counts events = counted (world_behind start (run plain start events))

-- the lines of a report that further reach has
abbrev pub bups : List Entry → List BroadcastUp
bups [] = []
bups (x ∷ rest) = one_of x.trace.happenings.bup ++ bups rest

abbrev pub agents : List Entry → List AgentLine
agents [] = []
agents (x ∷ rest) = one_of x.trace.happenings.agent ++ agents rest

abbrev pub paths : List Entry → List PathLine
paths [] = []
paths (x ∷ rest) = one_of x.trace.happenings.path ++ paths rest

-- the octets of a flight
abbrev pub line_octets : List Event → ℕ → Option (List ℕ)
line_octets events number = option_map (λ (f : Flight). f.octets) (flight_at (world_behind start (run plain start events)) number)

-- # Acknowledged replies

abbrev pub late : List Event
late =
    two_meters
    ++ (Checks ∷ Send 1 2 (0xAA ∷ []) ∷ Deliver 1 2 1 ∷ Tick 2 ∷ Send 1 0 (0xBB ∷ []) ∷ Deliver 3 2 1 ∷ Deliver 2 1 1 ∷ Deliver 4 2 1 ∷ Deliver 5 2 1
    ∷ Tick 300 ∷ Send 1 0 (0xCC ∷ []) ∷ Deliver 6 2 1 ∷ [])

abbrev pub in_time : List Event
in_time =
    two_meters
    ++ (Checks ∷ Send 1 2 (0xAA ∷ []) ∷ Deliver 1 2 1 ∷ Deliver 2 1 1 ∷ Deliver 3 2 1 ∷ Deliver 4 2 1 ∷ Tick 2 ∷ Send 1 0 (0xBB ∷ []) ∷ Deliver 5 2 1 ∷ [])

unfoldable pub RepliesAreAcknowledged : Type 0
RepliesAreAcknowledged =
    (line_answers 5 late
    ≡ answers.Set ∷ answers.Waiting ∷ answers.Answered ∷ answers.Ticked ∷ answers.Waiting ∷ answers.Blacklisted ∷ answers.Learned ∷ answers.Up
    ∷ answers.NotAwaited ∷ answers.Ticked
    ∷ answers.Waiting ∷ answers.Relayed ∷ [])
    × (line_counts late ≡ record { events = 17; flights = 7; sends = 3; ups = 1; forged = 0 })
    × (line_answers 5 in_time
    ≡ answers.Set ∷ answers.Waiting ∷ answers.Answered ∷ answers.Learned ∷ answers.Up ∷ answers.Acked ∷ answers.Ticked ∷ answers.Waiting ∷ answers.Relayed ∷ [])
    × (line_counts in_time ≡ record { events = 14; flights = 6; sends = 2; ups = 1; forged = 0 })

-- # Broadcasts

abbrev pub sent_to_all : List Event
sent_to_all = two_meters ++ (Bcast 0 (0xAA ∷ []) ∷ Deliver 1 1 1 ∷ Deliver 1 2 1 ∷ Deliver 2 2 1 ∷ Deliver 2 0 1 ∷ [])

unfoldable pub BroadcastsComeOnce : Type 0
BroadcastsComeOnce =
    (line_answers 5 sent_to_all ≡ answers.Sent ∷ answers.Bup ∷ answers.Bup ∷ answers.Old ∷ answers.Old ∷ [])
    × (bups (run plain start sent_to_all)
    ≡ record { node = 1; origin = 0; number = 0; octets = 0xAA ∷ [] } ∷ record { node = 2; origin = 0; number = 0; octets = 0xAA ∷ [] } ∷ [])
    × (line_counts sent_to_all ≡ record { events = 10; flights = 3; sends = 0; ups = 0; forged = 0 })

-- # Beacons

abbrev pub begun_scan : List Event
begun_scan =
    Coordinator (eui 1) group_key ∷ Meter (eui 2) pair_key ∷ Meter (eui 3) pair_key ∷ Meter (eui 4) pair_key ∷ Depot 1 ∷ Depot 2 ∷ Near 0 1 5 ∷ Near 0 2 2
    ∷ Scan 3 ∷ Deliver 1 1 1 ∷ Deliver 1 2 4 ∷ Deliver 2 3 1 ∷ Deliver 3 3 4 ∷ []

abbrev pub cheapest : List Event
cheapest = begun_scan ++ (Choose 3 1 ∷ Choose 3 2 ∷ Choose 3 3 ∷ [])

abbrev pub of_coordinator : List Event
of_coordinator = begun_scan ++ (Deliver 1 0 9 ∷ Deliver 4 3 7 ∷ Deliver 2 2 1 ∷ Choose 3 3 ∷ [])

unfoldable pub MetersChooseAgents : Type 0
MetersChooseAgents =
    (line_answers 8 cheapest ≡ answers.Scanning ∷ answers.Beacon ∷ answers.Beacon ∷ answers.Beaconed ∷ answers.Beaconed ∷ answers.Asked ∷ answers.Asked
    ∷ answers.NoBeacon ∷ [])
    × (agents (run plain start cheapest) ≡ record { node = 3; address = 1; total = 6 } ∷ record { node = 3; address = 2; total = 6 } ∷ [])
    × (line_octets cheapest 1 ≡ Some (0x03 ∷ 0x08 ∷ 0x00 ∷ 0xFF ∷ 0xFF ∷ 0xFF ∷ 0xFF ∷ 0x07 ∷ []))
    × (line_octets cheapest 2 ≡ Some (0x00 ∷ 0x80 ∷ 0x00 ∷ 0x1D ∷ 0x78 ∷ 0x01 ∷ 0x00 ∷ 0xFF ∷ 0x8F ∷ 0x00 ∷ 0x00 ∷ 0x00 ∷ 0x05 ∷ []))
    × (line_counts cheapest ≡ record { events = 16; flights = 5; sends = 0; ups = 0; forged = 0 })
    × (line_answers 13 of_coordinator ≡ answers.Beacon ∷ answers.Beaconed ∷ answers.NotScanning ∷ answers.Asked ∷ [])
    × (agents (run plain start of_coordinator) ≡ record { node = 3; address = 0; total = 7 } ∷ [])

-- # Paths

abbrev pub learned : List Event
learned = two_meters ++ (Near 0 1 1 ∷ Near 1 2 1 ∷ Send 0 2 (0xAA ∷ []) ∷ Deliver 1 1 1 ∷ Deliver 2 2 1 ∷ Deliver 3 1 1 ∷ Deliver 4 0 1 ∷ Path 0 2 ∷ [])

abbrev pub walked : List Event
walked = learned ++ (Deliver 6 1 1 ∷ Deliver 7 2 1 ∷ Deliver 8 1 1 ∷ Deliver 9 0 1 ∷ [])

abbrev pub broken : List Event
broken = learned ++ (Break 1 2 ∷ Deliver 6 1 1 ∷ [])

unfoldable pub PathsAreAnswered : Type 0
PathsAreAnswered =
    (line_answers 7 walked
    ≡ answers.Waiting ∷ answers.Relayed ∷ answers.Answered ∷ answers.Relayed ∷ answers.Learned ∷ answers.Traced ∷ answers.Relayed ∷ answers.Answered
    ∷ answers.Relayed ∷ answers.Path ∷ [])
    × (paths (run plain start walked) ≡ record { node = 0; walk = 0 ∷ 1 ∷ 2 ∷ [] } ∷ [])
    × (line_counts walked ≡ record { events = 17; flights = 9; sends = 1; ups = 0; forged = 0 })
    × (line_answers 12 broken ≡ answers.Traced ∷ answers.Broken ∷ answers.NoRoute ∷ [])
