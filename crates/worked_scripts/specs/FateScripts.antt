-- What becomes of a datagram that is sent, of a unit that is accepted, of a body that waits and of a piece that is held: each fate is met.
use Rattle.std.specs.Prelude.{◌≡◌, ℕ, ◌+◌, false, List, [], ◌∷◌, ◌++◌, length, map, replicate, Option, Some, None}
use Rattle.std.specs.List.{range_with_len}
use Rattle.std.specs.Option.{option_map, option_map_or}
use Rattle.mesh_header.specs.declared.unit.Unit.{Unit as MeshUnit}
use Rattle.line_events.specs.declared.event.Answer.{Answer}
use Rattle.line_events.specs.declared.event.Answer.TheVariants as answers
use Rattle.line_events.specs.declared.event.Event.{Event}
use Rattle.line_events.specs.declared.event.Event.TheVariants.{Near, Counter, Send, Deliver, Inject, Lose, Cut, Tick, Leave}
use Rattle.line_rules.specs.Runs.{run}
use Rattle.line_rules.specs.Worlds.{Flight, flight_at, start}
use Rattle.worked_scripts.specs.Scripts.{plain, world_behind, three_meters, sealed, whole, part_of, answers_to, counts_of, memory_at}

-- # A datagram that is to be sent

-- a meter has a route to meter 2, and none to meter 3
abbrev pub one_route : List Event
one_route = three_meters ++ (Near 1 2 1 ∷ [])

-- It goes out in one flight, or as two pieces in two; it waits, and a request flies; or it is refused.
unfoldable pub ASendHasEachFate : Type 0
ASendHasEachFate =
    (answers_to one_route
    (Send 1 2 (0xaa ∷ []) ∷ Send 1 2 (replicate 376 7) ∷ Send 1 3 (0xaa ∷ []) ∷ Send 1 1 (0xaa ∷ []) ∷ Send 1 2 [] ∷ [])
    ≡ answers.Sent ∷ answers.Sent ∷ answers.Waiting ∷ answers.ToSelf ∷ answers.BadSize ∷ [])
    × (counts_of (one_route ++ (Send 1 2 (0xaa ∷ []) ∷ [])) ≡ record { events = 9; flights = 1; sends = 1; ups = 0; forged = 0 })
    × (counts_of (one_route ++ (Send 1 2 (replicate 376 7) ∷ [])) ≡ record { events = 9; flights = 2; sends = 1; ups = 0; forged = 0 })
    × (counts_of (one_route ++ (Send 1 3 (0xaa ∷ []) ∷ [])) ≡ record { events = 9; flights = 1; sends = 1; ups = 0; forged = 0 })
    × (counts_of (one_route ++ (Send 1 1 (0xaa ∷ []) ∷ [])) ≡ record { events = 9; flights = 0; sends = 0; ups = 0; forged = 0 })

-- # A unit that is accepted

-- a unit of meter 3 comes to meter 1 under a counter
abbrev pub comes_to : ℕ → MeshUnit → Event
comes_to counter unit = Inject 1 1 (sealed 1 3 counter unit)

-- a piece of a datagram of 16 octets under a tag, for meter 1: the first, and the second
abbrev pub first_piece : (counter tag : ℕ) → Event
first_piece counter tag = comes_to counter (part_of 3 1 16 tag 0 (replicate 8 7))

abbrev pub second_piece : (counter tag : ℕ) → Event
second_piece counter tag = comes_to counter (part_of 3 1 16 tag 1 (replicate 8 7))

-- what is answered to it, where other events were before
abbrev pub answer_behind : List Event → Event → List Answer
answer_behind before event = answers_to (one_route ++ before) (event ∷ [])

-- It is handed up, held, or goes on; or it ends: without a route, with a report to its origin, without hops, counters or room, or where a
-- write fails.
unfoldable pub AUnitHasEachFate : Type 0
AUnitHasEachFate =
    (answer_behind [] (comes_to 9 (whole 14 3 1 (0xaa ∷ []))) ≡ answers.Up ∷ [])
    × (answer_behind [] (first_piece 9 5) ≡ answers.Held ∷ [])
    × (answer_behind [] (comes_to 9 (whole 14 3 2 (0xaa ∷ []))) ≡ answers.Relayed ∷ [])
    × (answer_behind [] (comes_to 9 (whole 14 3 0 (0xaa ∷ []))) ≡ answers.NoRoute ∷ [])
    × (answer_behind [] (comes_to 9 (whole 14 2 0 (0xaa ∷ []))) ≡ answers.Reported ∷ [])
    × (answer_behind [] (comes_to 9 (whole 1 3 2 (0xaa ∷ []))) ≡ answers.HopsSpent ∷ [])
    × (answer_behind (Counter 1 4294967295 ∷ []) (comes_to 9 (whole 14 3 2 (0xaa ∷ []))) ≡ answers.CounterSpent ∷ [])
    × (answer_behind (map (λ k. first_piece (k + 1) k) (range_with_len 0 8)) (first_piece 9 8) ≡ answers.BufferFull ∷ [])
    × (answer_behind (Cut 1 2 false ∷ []) (comes_to 9 (whole 14 3 2 (0xaa ∷ []))) ≡ answers.Store ∷ [])

-- # A flight that is lost

-- meter 1 has sent a datagram to meter 2, in one flight
abbrev pub it_flies : List Event
it_flies = one_route ++ (Send 1 2 (0xaa ∷ []) ∷ [])

-- the octets of the first flight
abbrev pub first_octets : List Event → List ℕ
first_octets events = option_map_or (λ (f : Flight). f.octets) (flight_at (world_behind start (run plain start events)) 1) []

-- A flight that is lost is no end of what it carries: who has its octets can still inject them, they are handed up, and nothing is forged.
unfoldable pub ALostFlightComes : Type 0
ALostFlightComes =
    (answers_to it_flies (Lose 1 ∷ Inject 2 1 (first_octets it_flies) ∷ []) ≡ answers.Lost ∷ answers.Up ∷ [])
    × (counts_of (it_flies ++ (Lose 1 ∷ Inject 2 1 (first_octets it_flies) ∷ []))
    ≡ record { events = 11; flights = 1; sends = 1; ups = 1; forged = 0 })

-- # A body that waits

-- how many bodies wait at meter 1, and how many datagrams it gathers; a halted node has none
abbrev pub waiting_after : List Event → Option ℕ
waiting_after events = option_map (λ m. length m.station.waiting) (memory_at events 1)

abbrev pub gathered_after : List Event → Option ℕ
gathered_after events = option_map (λ m. length m.station.reassemblies) (memory_at events 1)

-- meter 1 has a datagram for meter 3, to which it knows no route
abbrev pub it_waits : List Event
it_waits = three_meters ++ (Send 1 3 (0xaa ∷ []) ∷ [])

-- It waits on where another frame comes, and for 29 seconds; it leaves where its route is found; it ends after 30 seconds, and where the
-- meter leaves or a write fails.
unfoldable pub ABodyHasEachFate : Type 0
ABodyHasEachFate =
    (waiting_after it_waits ≡ Some 1)
    × (waiting_after (it_waits ++ (comes_to 9 (whole 14 3 1 (0xaa ∷ [])) ∷ [])) ≡ Some 1)
    × (waiting_after (it_waits ++ (Deliver 1 3 1 ∷ Deliver 2 1 1 ∷ [])) ≡ Some 0)
    × (counts_of (it_waits ++ (Deliver 1 3 1 ∷ Deliver 2 1 1 ∷ [])) ≡ record { events = 10; flights = 3; sends = 1; ups = 0; forged = 0 })
    × (waiting_after (it_waits ++ (Tick 29 ∷ [])) ≡ Some 1)
    × (waiting_after (it_waits ++ (Tick 30 ∷ [])) ≡ Some 0)
    × (waiting_after (it_waits ++ (Leave 1 ∷ [])) ≡ Some 0)
    × (waiting_after (it_waits ++ (Cut 1 1 false ∷ Leave 1 ∷ [])) ≡ None)

-- # A piece that is held

-- meter 1 holds the first piece of a datagram
abbrev pub it_is_held : List Event
it_is_held = three_meters ++ (first_piece 1 5 ∷ [])

-- It is held on where a piece of another datagram comes, and for 59 seconds; it comes up with the second piece; it is discarded where a
-- piece overlaps it; it ends after 60 seconds, and where the meter leaves or a write fails.
unfoldable pub APieceHasEachFate : Type 0
APieceHasEachFate =
    (gathered_after it_is_held ≡ Some 1)
    × (gathered_after (it_is_held ++ (first_piece 2 6 ∷ [])) ≡ Some 2)
    × (answers_to it_is_held (second_piece 2 5 ∷ []) ≡ answers.Up ∷ [])
    × (gathered_after (it_is_held ++ (second_piece 2 5 ∷ [])) ≡ Some 0)
    × (answers_to it_is_held (comes_to 2 (part_of 3 1 16 5 0 (replicate 16 7)) ∷ []) ≡ answers.Up ∷ [])
    × (gathered_after (it_is_held ++ (Tick 59 ∷ [])) ≡ Some 1)
    × (gathered_after (it_is_held ++ (Tick 60 ∷ [])) ≡ Some 0)
    × (gathered_after (it_is_held ++ (Leave 1 ∷ [])) ≡ Some 0)
    × (gathered_after (it_is_held ++ (Cut 1 1 false ∷ Leave 1 ∷ [])) ≡ None)
