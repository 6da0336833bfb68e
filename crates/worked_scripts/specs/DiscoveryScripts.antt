-- A datagram without a route finds its way and arrives; and where the nodes of the way lack one thing alone, it does not.
use Rattle.std.specs.Prelude.{◌≡◌, ℕ, ◌-◌, List, [], ◌∷◌, map, replicate, take, true, Some, None}
use Rattle.std.specs.List.{range_with_len}
use Rattle.frame_counters.specs.PeerMarks as marks
use Rattle.frame_counters.specs.SendCounter as counter
use Rattle.routing_set.specs.RoutingSet as routing
use Rattle.node_rules.specs.Memory.{Body, Datagram}
use Rattle.line_events.specs.declared.event.Answer.{Answer}
use Rattle.line_events.specs.declared.event.Answer.TheVariants as answers
use Rattle.line_events.specs.declared.event.Event.{Event}
use Rattle.line_events.specs.declared.event.Event.TheVariants.{Send, Deliver}
use Rattle.line_events.specs.declared.event.TheConstants.{MAX_EVENTS}
use Rattle.line_rules.specs.Runs.{run}
use Rattle.line_rules.specs.Worlds.{World}
use Rattle.line_progress.specs.Arrival.{IsBrought, answers_of}
use Rattle.line_progress.specs.Discovery.{MayFind}
use Rattle.worked_scripts.specs.ArrivalScripts.{stop_of, with_node, with_station_at, with_grant_at, with_cut_at}
use Rattle.worked_scripts.specs.ArrivalScripts.{with_hop_at, with_second_key, other_of, with_others}
use Rattle.worked_scripts.specs.Scripts.{plain, second_key, three_meters, four_meters, world_of}

-- # A way of two links

-- three meters that know no route
abbrev pub met : World
met = world_of three_meters

-- A datagram of one octet may find its way from meter 1 to meter 3, by meter 2.
unfoldable pub TheWayMayBeFound : Type 0
TheWayMayBeFound = MayFind met (stop_of met 1) (stop_of met 2) (stop_of met 3 ∷ []) (0xbb ∷ [])

-- its events: it is sent, the request comes to meters 2 and 3, the reply to meters 2 and 1, and the datagram to meters 2 and 3
abbrev pub search : List ℕ → List Event
search datagram =
    Send 1 3 datagram ∷ Deliver 1 2 1 ∷ Deliver 2 3 1 ∷ Deliver 3 2 1 ∷ Deliver 4 1 1 ∷ Deliver 5 2 1 ∷ Deliver 6 3 1 ∷ []

-- what is answered where it arrives
abbrev pub found : List Answer
found =
    answers.Waiting ∷ answers.Relayed ∷ answers.Answered ∷ answers.Relayed ∷ answers.Learned ∷ answers.Relayed ∷ answers.Up ∷ []

-- It arrives.
unfoldable pub ADatagramFindsItsWay : Type 0
ADatagramFindsItsWay = IsBrought found 3 (0xbb ∷ []) (run plain met (search (0xbb ∷ [])))

-- # In two pieces

-- a datagram of 376 octets, which goes in two pieces
abbrev pub in_two : List ℕ
in_two = replicate 376 7

-- It may find its way.
unfoldable pub TheWayMayBeFoundForPieces : Type 0
TheWayMayBeFoundForPieces = MayFind met (stop_of met 1) (stop_of met 2) (stop_of met 3 ∷ []) in_two

-- its events: both pieces leave at once, and the first comes to its end before the second one
abbrev pub search_in_two : List Event
search_in_two =
    Send 1 3 in_two ∷ Deliver 1 2 1 ∷ Deliver 2 3 1 ∷ Deliver 3 2 1 ∷ Deliver 4 1 1 ∷ Deliver 5 2 1 ∷ Deliver 7 3 1 ∷ Deliver 6 2 1
    ∷ Deliver 8 3 1 ∷ []

-- what is answered up to the reply, and then to the pieces
abbrev pub answered_in_two : List Answer → List Answer
answered_in_two rest = answers.Waiting ∷ answers.Relayed ∷ answers.Answered ∷ answers.Relayed ∷ answers.Learned ∷ rest

-- It arrives.
unfoldable pub PiecesFindTheirWay : Type 0
PiecesFindTheirWay =
    IsBrought (answered_in_two (answers.Relayed ∷ answers.Held ∷ answers.Relayed ∷ answers.Up ∷ [])) 3 in_two (run plain met search_in_two)

-- # A way that lacks one thing

-- the answers of another line to the datagram of one octet
abbrev pub found_with : (World → World) → List Answer
found_with change = answers_of (run plain (change met) (search (0xbb ∷ [])))

-- A datagram does not arrive where a node of the way is not there, is halted, loses power or is not joined, where its address or its index is
-- out of its range, or where it has no key to seal with.
unfoldable pub EachNodeOfAWayIsReady : Type 0
EachNodeOfAWayIsReady =
    (found_with (λ w. record w { nodes = take 3 w.nodes }) ≡ [])
    × (found_with (with_node 2 (λ x. record x { memory = None })) ≡ answers.Waiting ∷ answers.Halted ∷ [])
    × (found_with (with_cut_at 2) ≡ answers.Waiting ∷ answers.Store ∷ [])
    × (found_with (with_station_at 2 (λ l. record l { ring = None })) ≡ answers.Waiting ∷ answers.NoKey ∷ [])
    × (found_with (with_grant_at 1 (λ g. record g { address = 0xFFFE })) ≡ answers.Waiting ∷ answers.Malformed ∷ [])
    × (found_with (λ w. with_grant_at 2 with_second_key (with_grant_at 1 (λ g. record (with_second_key g) { active = 2 }) w))
    ≡ answers.Waiting ∷ answers.Malformed ∷ [])
    × (found_with (with_grant_at 2 (λ g. record g { active = 1 })) ≡ answers.Waiting ∷ answers.Relayed ∷ [])

-- what comes first, from meter 1 to meter 4 over meters 2 and 3, on a line of four meters
abbrev pub four_with : (World → World) → List Event → List Answer
four_with change events = answers_of (run plain (change (world_of four_meters)) (Send 1 4 (0xbb ∷ []) ∷ events))

-- Nor where the request comes to a node twice, or, by these events, where neighbours are checked and the frames have other numbers.
unfoldable pub TheWayIsStraight : Type 0
TheWayIsStraight =
    (four_with (λ w. w) (Deliver 1 2 1 ∷ Deliver 2 3 1 ∷ Deliver 3 2 1 ∷ Deliver 4 4 1 ∷ [])
    ≡ answers.Waiting ∷ answers.Relayed ∷ answers.Relayed ∷ answers.NotBetter ∷ [])
    × (found_with (λ w. record w { checks_on = true })
    ≡ answers.Waiting ∷ answers.Relayed ∷ answers.Answered ∷ answers.Relayed ∷ answers.Learned ∷ answers.NotForMe ∷ answers.NotForMe ∷ [])

-- # The node that asks

-- a body that waits for an address
abbrev pub waits_for : ℕ → Body
waits_for dest = record { to = dest; note = 0; since = 0; load = Datagram (0xcc ∷ []) 0 }

abbrev pub with_waiting_at : ℕ → List Body → World → World
with_waiting_at number bodies w = with_station_at number (λ l. record l { waiting = bodies }) w

-- whose node has given out all its own numbers
abbrev pub without_numbers_at : ℕ → World → World
without_numbers_at number w = with_station_at number (λ l. record l { own_number = record { limit = 65535; last = 65535 } }) w

-- whose node has this many counters left
abbrev pub with_counters_at : ℕ → ℕ → World → World
with_counters_at number left w = with_station_at number (λ l. record l { counter = counter.counting_at (4294967295 - left) }) w

-- Nor where its node has a route that leads nowhere, seeks the address already, has no room, no number or no counter, or has the address itself;
-- nor where it is empty or has more than 1,280 octets.
unfoldable pub TheNodeMaySeek : Type 0
TheNodeMaySeek =
    (found_with (with_hop_at 1 2) ≡ answers.Sent ∷ answers.NoRoute ∷ [])
    × (found_with (with_waiting_at 1 (waits_for 3 ∷ [])) ≡ answers.Waiting ∷ [])
    × (found_with (with_waiting_at 1 (replicate 8 (waits_for 9))) ≡ answers.WaitingFull ∷ [])
    × (found_with (without_numbers_at 1) ≡ answers.SeqSpent ∷ [])
    × (found_with (with_counters_at 1 0) ≡ answers.CounterSpent ∷ [])
    × (found_with (with_grant_at 1 (λ g. record g { address = 3 })) ≡ answers.ToSelf ∷ [])
    × (answers_of (run plain met (search [])) ≡ answers.BadSize ∷ [])
    × (answers_of (run plain met (search (replicate 1281 7))) ≡ answers.BadSize ∷ [])

-- # The request

-- whose node admits only counters above 5 of a sender
abbrev pub with_mark_at : ℕ → ℕ → World → World
with_mark_at number from w = with_station_at number (λ l. record l { marks = marks.kept_after l.marks from 5 }) w

-- whose node has a better rank of an address
abbrev pub with_rank_at : ℕ → ℕ → World → World
with_rank_at number dest w =
    with_station_at number (λ l. record l { routing = routing.offered l.routing dest (record { number = 9; cost = 1 }) dest 0 }) w

-- whose node keeps ranks of this many other addresses, all fresh
abbrev pub with_ranks_at : ℕ → ℕ → World → World
with_ranks_at number count w =
    with_station_at number
    (λ l. record l {
      routing = record l.routing { entries = map (λ k. routing.offered_entry k (record { number = 1; cost = 1 }) k 0) (range_with_len 100 count) };
    }) w

-- Nor where a node before the last has the address that is sought, has another key, admits the counter no more, has the address of the sender or
-- of the origin, knows a better rank, where the way costs too much, a table of ranks is full, something waits for the origin, a counter is
-- lacking, or the last node has no number for its reply.
unfoldable pub EachNodeTakesTheRequest : Type 0
EachNodeTakesTheRequest =
    (found_with (with_grant_at 2 (λ g. record g { address = 3 })) ≡ answers.Waiting ∷ answers.Answered ∷ answers.NotForMe ∷ [])
    × (found_with (with_grant_at 2 (λ g. record g { key0 = Some second_key })) ≡ answers.Waiting ∷ answers.BadTag ∷ [])
    × (found_with (with_mark_at 2 1) ≡ answers.Waiting ∷ answers.Replayed ∷ [])
    × (found_with (with_grant_at 2 (λ g. record g { address = 1 })) ≡ answers.Waiting ∷ answers.NotForMe ∷ [])
    × (four_with (with_grant_at 3 (λ g. record g { address = 1 })) (Deliver 1 2 1 ∷ Deliver 2 3 1 ∷ Deliver 3 4 1 ∷ [])
    ≡ answers.Waiting ∷ answers.Relayed ∷ answers.NotBetter ∷ [])
    × (found_with (with_rank_at 2 1) ≡ answers.Waiting ∷ answers.NotBetter ∷ [])
    × (answers_of (run plain met (Send 1 3 (0xbb ∷ []) ∷ Deliver 1 2 65535 ∷ Deliver 2 3 1 ∷ Deliver 3 2 1 ∷ []))
    ≡ answers.Waiting ∷ answers.Relayed ∷ answers.CostSpent ∷ [])
    × (found_with (with_ranks_at 2 64) ≡ answers.Waiting ∷ answers.RoutesFull ∷ [])
    × (found_with (with_waiting_at 2 (waits_for 1 ∷ [])) ≡ answers.Waiting ∷ answers.Relayed ∷ answers.NotForMe ∷ answers.NotForMe ∷ [])
    × (found_with (with_counters_at 2 0) ≡ answers.Waiting ∷ answers.CounterSpent ∷ [])
    × (found_with (without_numbers_at 3) ≡ answers.Waiting ∷ answers.Relayed ∷ answers.SeqSpent ∷ [])

-- # The reply

-- what is answered until the reply comes to meter 2, and until it comes to meter 1
abbrev pub until_reply : List Answer → List Answer
until_reply rest = answers.Waiting ∷ answers.Relayed ∷ answers.Answered ∷ rest

abbrev pub until_learned : List Answer → List Answer
until_learned rest = until_reply (answers.Relayed ∷ rest)

-- Nor where meter 2 lacks the key that meter 3 seals with, admits its counter no more, knows a better rank of it, has no room for one more, has
-- something that waits for it, or lacks a counter for the reply or for the datagram.
unfoldable pub EachNodeTakesTheReply : Type 0
EachNodeTakesTheReply =
    (found_with (with_grant_at 3 (λ g. record (with_second_key g) { active = 1 })) ≡ until_reply (answers.NoKey ∷ []))
    × (found_with (with_mark_at 2 3) ≡ until_reply (answers.Replayed ∷ []))
    × (found_with (with_rank_at 2 3) ≡ until_reply (answers.NotBetter ∷ []))
    × (found_with (with_ranks_at 2 63) ≡ until_reply (answers.RoutesFull ∷ []))
    × (found_with (with_waiting_at 2 (waits_for 3 ∷ [])) ≡ until_learned (answers.NotForMe ∷ answers.NotForMe ∷ []))
    × (found_with (with_counters_at 2 1) ≡ until_reply (answers.CounterSpent ∷ []))
    × (found_with (with_counters_at 2 2) ≡ until_learned (answers.Learned ∷ answers.CounterSpent ∷ []))

-- Nor where meter 1 does not take it: its rank is known better, it costs too much, there is no room for it, or there is no counter for the datagram.
unfoldable pub TheNodeThatAsksLearns : Type 0
TheNodeThatAsksLearns =
    (found_with (with_mark_at 1 2) ≡ until_learned (answers.Replayed ∷ []))
    × (answers_of (run plain met
    (Send 1 3 (0xbb ∷ []) ∷ Deliver 1 2 1 ∷ Deliver 2 3 1 ∷ Deliver 3 2 1 ∷ Deliver 4 1 65535 ∷ Deliver 5 2 1 ∷ []))
    ≡ until_learned (answers.CostSpent ∷ []))
    × (found_with (with_ranks_at 1 64) ≡ until_learned (answers.RoutesFull ∷ []))
    × (found_with (with_counters_at 1 1) ≡ until_learned (answers.CounterSpent ∷ []))

-- meter 4 has the address of meter 2, and higher counters
abbrev pub with_twin : World → World
with_twin w = with_station_at 4 (λ l. record l { counter = counter.counting_at 100 }) (with_grant_at 4 (λ g. record g { address = 2 }) w)

-- Nor where the nodes before and after a node have one address, so that the counters of the one hide those of the other. The way goes by meters
-- 2, 3 and 4 to the coordinator.
unfoldable pub NeighboursHaveTheirAddresses : Type 0
NeighboursHaveTheirAddresses =
    (answers_of (run plain (with_twin (world_of four_meters))
    (Send 1 0 (0xbb ∷ []) ∷ Deliver 1 2 1 ∷ Deliver 2 3 1 ∷ Deliver 3 4 1 ∷ Deliver 4 0 1 ∷ Deliver 5 4 1 ∷ Deliver 6 3 1 ∷ Deliver 7 2 1
    ∷ Deliver 8 1 1 ∷ Deliver 9 2 1 ∷ Deliver 10 3 1 ∷ Deliver 11 4 1 ∷ []))
    ≡ answers.Waiting ∷ answers.Relayed ∷ answers.Relayed ∷ answers.Relayed ∷ answers.Answered ∷ answers.Relayed ∷ answers.Relayed
    ∷ answers.Relayed ∷ answers.Learned ∷ answers.Relayed ∷ answers.Replayed ∷ [])

-- Nor, in pieces, where the target gathers 8 datagrams; nor where the run may not have the events, or the ciphers do not open what they seal.
unfoldable pub WhatElseASearchNeeds : Type 0
WhatElseASearchNeeds =
    (answers_of (run plain (with_others (replicate 8 (other_of 64)) met) search_in_two)
    ≡ answered_in_two (answers.Relayed ∷ answers.BufferFull ∷ answers.Relayed ∷ answers.BufferFull ∷ []))
    × (found_with (λ w. record w { events = MAX_EVENTS - 6 }) ≡ until_learned (answers.Learned ∷ answers.Relayed ∷ []))
    × (answers_of (run (record plain { opens = λ key head front body. None }) met (search (0xbb ∷ []))) ≡ answers.Waiting ∷ answers.BadTag ∷ [])
