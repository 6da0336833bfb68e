-- What becomes of datagrams and units over one hop and over several.
use Rattle.std.specs.Prelude.{◌≡◌, ℕ, false, List, [], ◌∷◌, ◌++◌, replicate, Some, None}
use Rattle.byteorder.specs.Endian.{big_bytes}
use Rattle.mesh_header.specs.declared.unit.Unit.TheVariants.{Part, Carried}
use Rattle.loadng_messages.specs.declared.message.Message.TheVariants.{Rerr}
use Rattle.line_events.specs.declared.event.Answer.TheVariants as answers
use Rattle.line_events.specs.declared.event.Event.{Event}
use Rattle.line_events.specs.declared.event.Event.TheVariants.{Near, Counter, Send, Deliver, Inject, Lose, Break, Show}
use Rattle.line_events.specs.declared.event.StepFault.TheVariants as faults
use Rattle.line_rules.specs.Worlds.{start}
use Rattle.line_rules.specs.Runs.{run}
use Rattle.worked_scripts.specs.Scripts.{plain, group_key, two_meters, three_meters, four_meters, sealed, routing_unit, whole, part_of, command, answers_after}
use Rattle.worked_scripts.specs.Scripts.{answers_to, counts_of, fault_after, handed_at_last, shown_at_last, octets_of, route_at, rank_at}

-- # One hop

-- a datagram over one hop, delivered twice
abbrev pub one_hop : List Event
one_hop =
    two_meters ++ (Near 1 2 3 ∷ Send 1 2 (0x48 ∷ 0x65 ∷ 0x6c ∷ 0x6c ∷ 0x6f ∷ []) ∷ Deliver 1 2 3 ∷ Deliver 1 2 3 ∷ [])

-- A datagram over one hop is handed up, and its repeat is refused.
unfoldable pub ARepeatIsRefused : Type 0
ARepeatIsRefused =
    (answers_after 5 one_hop ≡ answers.Set ∷ answers.Sent ∷ answers.Up ∷ answers.Replayed ∷ [])
    × (counts_of one_hop ≡ record { events = 9; flights = 1; sends = 1; ups = 1; forged = 0 })

-- # Datagrams of every size

-- datagrams about the sizes that matter, and the pieces of one in the wrong order
abbrev pub sizes : List Event
sizes =
    two_meters
    ++ (Near 1 2 3 ∷ Send 1 2 (replicate 375 7) ∷ Send 1 2 (replicate 376 7) ∷ Send 1 2 (replicate 1280 7)
    ∷ Send 1 2 (replicate 1281 7)
    ∷ Deliver 3 2 3 ∷ Deliver 2 2 3 ∷ [])

-- A datagram of 375 octets goes whole, a longer one goes in pieces, and a piece that was overtaken on one hop is refused.
unfoldable pub DatagramsOfEverySize : Type 0
DatagramsOfEverySize =
    (answers_after 6 sizes ≡ answers.Sent ∷ answers.Sent ∷ answers.Sent ∷ answers.BadSize ∷ answers.Held ∷ answers.Replayed ∷ [])
    × (counts_of sizes ≡ record { events = 12; flights = 7; sends = 3; ups = 0; forged = 0 })

-- # Discovery over two relays

-- a datagram without a route, and the messages that find one
abbrev pub discovery : List Event
discovery =
    four_meters
    ++ (Send 1 4 (0xaa ∷ []) ∷ Deliver 1 2 2 ∷ Deliver 1 3 3 ∷ Deliver 2 4 3 ∷ Deliver 3 4 4 ∷ Deliver 4 2 3
    ∷ Deliver 5 1 2 ∷ Deliver 6 2 2 ∷ Deliver 7 4 3 ∷ [])

-- the route ends, and is sought anew
abbrev pub sought_anew : List Event
sought_anew = discovery ++ (Break 1 2 ∷ Send 1 4 (0xbb ∷ []) ∷ [])

-- A route over two relays is found by the cheaper way, and what waited is handed up; it waits no more, so that the next datagram seeks
-- the route again.
unfoldable pub DiscoveryOverTwoRelays : Type 0
DiscoveryOverTwoRelays =
    (answers_after 9 discovery
    ≡ answers.Waiting ∷ answers.Relayed ∷ answers.Relayed ∷ answers.Answered ∷ answers.NotBetter ∷ answers.Relayed ∷ answers.Learned
    ∷ answers.Relayed ∷ answers.Up ∷ [])
    × (handed_at_last (run plain start discovery) ≡ Some (record { node = 4; note = 1; octets = 0xaa ∷ [] }))
    × (counts_of discovery ≡ record { events = 18; flights = 7; sends = 1; ups = 1; forged = 0 })
    × (answers_after 18 sought_anew ≡ answers.Broken ∷ answers.Waiting ∷ [])
    × (counts_of sought_anew ≡ record { events = 20; flights = 8; sends = 2; ups = 1; forged = 0 })

-- # A broken route stays broken

-- a route breaks, and the request that made it comes again
abbrev pub broken : List Event
broken =
    three_meters
    ++ (Send 3 1 (0xaa ∷ []) ∷ Deliver 1 2 1 ∷ Deliver 2 1 1 ∷ Deliver 3 2 1 ∷ Break 2 3 ∷ Send 1 3 (0xbb ∷ [])
    ∷ Deliver 5 2 1 ∷ Deliver 6 1 1 ∷ Deliver 1 1 2 ∷ Show 1 ∷ [])

-- An old request does not revive a route that broke, whose rank stays.
unfoldable pub ABrokenRouteStaysBroken : Type 0
ABrokenRouteStaysBroken =
    (answers_after 7 broken
    ≡ answers.Waiting ∷ answers.Relayed ∷ answers.Answered ∷ answers.Relayed ∷ answers.Broken ∷ answers.Sent ∷ answers.Reported
    ∷ answers.Broken ∷ answers.NotBetter ∷ answers.Shown ∷ [])
    × (shown_at_last (run plain start broken) ≡ Some (record {
      halted = false;
      address = Some 1;
      active = Some 0;
      next_counter = 2;
      last_number = 2;
      key0 = Some group_key;
      key1 = None;
      routes = record { dest = 3; number = 2; cost = 2; next = None } ∷ [];
      floors = replicate 16 0;
      peers = record { from = 2; mark = 2 } ∷ record { from = 3; mark = 0 } ∷ [];
    }))
    × (counts_of broken ≡ record { events = 17; flights = 6; sends = 2; ups = 0; forged = 0 })

-- the same with the request lost before it comes again: the line that delivers it is bad
abbrev pub lost : List Event
lost =
    three_meters
    ++ (Send 3 1 (0xaa ∷ []) ∷ Deliver 1 2 1 ∷ Deliver 2 1 1 ∷ Deliver 3 2 1 ∷ Break 2 3 ∷ Send 1 3 (0xbb ∷ [])
    ∷ Deliver 5 2 1 ∷ Deliver 6 1 1 ∷ Lose 1 ∷ [])

-- A flight that was lost is not there any more.
unfoldable pub ALostFlightComesNoMore : Type 0
ALostFlightComesNoMore =
    (answers_after 15 lost ≡ answers.Lost ∷ []) × (fault_after lost (Deliver 1 1 9) ≡ Some faults.Flight)

-- # Hops that are left

-- a unit with this many hops comes to a meter that has a route to its target
abbrev pub with_hops : ℕ → List Event
with_hops hops = three_meters ++ (Near 1 2 1 ∷ Inject 1 1 (sealed 1 3 9 (whole hops 3 2 (0xaa ∷ []))) ∷ [])

-- A unit goes on with one hop less while it has two, and its hops are spelled in their shortest form.
unfoldable pub AUnitGoesOnWhileHopsAreLeft : Type 0
AUnitGoesOnWhileHopsAreLeft =
    (answers_after 8 (with_hops 0) ≡ answers.HopsSpent ∷ [])
    × (answers_after 8 (with_hops 1) ≡ answers.HopsSpent ∷ [])
    × (answers_after 8 (with_hops 2) ≡ answers.Relayed ∷ [])
    × (octets_of (with_hops 2) 1 ≡ Some (sealed 2 1 0 (whole 1 3 2 (0xaa ∷ []))))
    × (octets_of (with_hops 15) 1
    ≡ Some (big_bytes 15 0x6998001d7802000100_0d0000000000
    ++ (big_bytes 7 0xbe0003000241aa ++ big_bytes 4 0x00010203)))
    × (octets_of (with_hops 16) 1
    ≡ Some (big_bytes 15 0x6998001d7802000100_0d0000000000
    ++ (big_bytes 8 0xbf0f0003000241aa ++ big_bytes 4 0x00010203)))
    × (octets_of (with_hops 255) 1
    ≡ Some (big_bytes 15 0x6998001d7802000100_0d0000000000
    ++ (big_bytes 8 0xbffe0003000241aa ++ big_bytes 4 0x00010203)))

-- a piece and a joining command come to the same meter
abbrev pub other_units : List Event
other_units =
    three_meters ++ (Near 1 2 1 ∷ Inject 1 1 (sealed 1 3 9 (part_of 3 2 16 5 1 (replicate 8 7)))
    ∷ Inject 1 1 (sealed 1 3 10 (command 3 2 (9 ∷ []))) ∷ [])

-- Pieces and joining commands for another node go on as datagrams do, unread.
unfoldable pub EveryUnitGoesOn : Type 0
EveryUnitGoesOn =
    (answers_after 8 other_units ≡ answers.Relayed ∷ answers.Relayed ∷ [])
    × (octets_of other_units 1
    ≡ Some (sealed 2 1 0
    (Part (record { hops = 13; origin = 3; to = 2 })
    (record { size = 16; tag = 5; offset = 1; octets = replicate 8 7 }))))
    × (octets_of other_units 2 ≡ Some (sealed 2 1 1 (Carried (record { hops = 13; origin = 3; to = 2 }) (9 ∷ []))))

-- # Units without a route

-- a unit of an origin comes to a meter that has a route to meter 3, and none to its target
abbrev pub without_route : (hops origin : ℕ) → List Event
without_route hops origin =
    three_meters ++ (Near 1 3 1 ∷ Inject 1 1 (sealed 1 3 9 (whole hops origin 2 (0xaa ∷ []))) ∷ [])

-- A unit that can't go on is reported to its origin, where a route leads there and it is another node; no hop need be left to it.
unfoldable pub AUnitWithoutARouteIsReported : Type 0
AUnitWithoutARouteIsReported =
    (answers_after 8 (without_route 14 3) ≡ answers.Reported ∷ [])
    × (octets_of (without_route 14 3) 1 ≡ Some (sealed 3 1 0 (routing_unit (Rerr 2 3))))
    × (answers_after 8 (without_route 0 3) ≡ answers.Reported ∷ [])
    × (answers_after 8 (without_route 14 0) ≡ answers.NoRoute ∷ [])
    × (answers_after 8 (without_route 14 1) ≡ answers.NoRoute ∷ [])
    × (counts_of (without_route 14 1) ≡ record { events = 9; flights = 0; sends = 0; ups = 0; forged = 1 })

-- two routes, and this many counters gone
abbrev pub counters_gone : ℕ → List Event
counters_gone gone = three_meters ++ (Near 1 2 1 ∷ Near 1 3 1 ∷ Counter 1 gone ∷ [])

-- Going on and reporting take one counter each, and hops are judged before counters.
unfoldable pub GoingOnTakesACounter : Type 0
GoingOnTakesACounter =
    (answers_to (counters_gone 4294967295)
    (Inject 1 1 (sealed 1 3 9 (whole 2 3 2 (0xaa ∷ []))) ∷ Inject 1 1 (sealed 1 3 10 (whole 1 3 2 (0xaa ∷ [])))
    ∷ Inject 1 1 (sealed 1 3 11 (whole 2 3 0 (0xaa ∷ []))) ∷ [])
    ≡ answers.CounterSpent ∷ answers.HopsSpent ∷ answers.CounterSpent ∷ [])
    × (answers_to (counters_gone 4294967294)
    (Inject 1 1 (sealed 1 3 9 (whole 2 3 2 (0xaa ∷ []))) ∷ Inject 1 1 (sealed 1 3 10 (whole 2 3 2 (0xaa ∷ [])))
    ∷ [])
    ≡ answers.Relayed ∷ answers.CounterSpent ∷ [])

-- # Route errors

-- an error of a neighbour for a target comes to a meter that has routes to meters 2 and 3
abbrev pub error_by : (by lost to : ℕ) → List Event
error_by by lost to =
    three_meters ++ (Near 1 2 1 ∷ Near 1 3 1 ∷ Inject 1 1 (sealed 1 by 9 (routing_unit (Rerr lost to))) ∷ [])

-- A route error ends the route to the lost address where it goes by the neighbour, keeps its rank, and goes on to another target.
unfoldable pub AnErrorGoesOnToItsTarget : Type 0
AnErrorGoesOnToItsTarget =
    (answers_after 9 (error_by 2 2 3) ≡ answers.Broken ∷ [])
    × (octets_of (error_by 2 2 3) 1 ≡ Some (sealed 3 1 0 (routing_unit (Rerr 2 3))))
    × (route_at (error_by 2 2 3) 1 2 ≡ None)
    × (rank_at (error_by 2 2 3) 1 2 ≡ Some (record { number = 1; cost = 1 }))
    × (route_at (error_by 2 2 3) 1 3 ≡ Some 3)
    × (route_at (error_by 2 0 3) 1 2 ≡ Some 2)
    × (answers_after 9 (error_by 3 2 3) ≡ answers.Broken ∷ [])
    × (octets_of (error_by 3 2 3) 1 ≡ Some (sealed 3 1 0 (routing_unit (Rerr 2 3))))
    × (route_at (error_by 3 2 3) 1 2 ≡ Some 2)
    × (answers_after 9 (error_by 2 2 1) ≡ answers.Broken ∷ [])
    × (route_at (error_by 2 2 1) 1 2 ≡ None)
    × (counts_of (error_by 2 2 1) ≡ record { events = 10; flights = 0; sends = 0; ups = 0; forged = 1 })
    × (answers_after 9 (error_by 2 2 0) ≡ answers.Broken ∷ [])
    × (counts_of (error_by 2 2 0) ≡ record { events = 10; flights = 0; sends = 0; ups = 0; forged = 1 })

-- an error for another node, and one for the node itself, where no counter is left
abbrev pub error_without_counters : List Event
error_without_counters = counters_gone 4294967295 ++ (Inject 1 1 (sealed 1 2 9 (routing_unit (Rerr 2 3))) ∷ [])

-- An error that can't go on is refused and ends no route; one that need not go on takes no counter.
unfoldable pub AnErrorThatGoesOnTakesACounter : Type 0
AnErrorThatGoesOnTakesACounter =
    (answers_after 10 error_without_counters ≡ answers.CounterSpent ∷ [])
    × (route_at error_without_counters 1 2 ≡ Some 2)
    × (answers_to error_without_counters (Inject 1 1 (sealed 1 2 10 (routing_unit (Rerr 2 1))) ∷ []) ≡ answers.Broken ∷ [])

-- a route error of the coordinator's to meter 1, sealed by nobody, whose lost address is its target
abbrev pub error_for : ℕ → List ℕ
error_for address = sealed 1 0 9 (routing_unit (Rerr address address))

-- the route to meter 2 goes by meter 2, so the error of another neighbour leaves it
abbrev pub error_by_another : List Event
error_by_another = two_meters ++ (Near 1 2 1 ∷ Inject 1 1 (error_for 2) ∷ [])

-- the route to the coordinator goes by the sender of the error, so it ends
abbrev pub error_by_its_hop : List Event
error_by_its_hop = two_meters ++ (Near 0 1 1 ∷ Inject 1 1 (error_for 0) ∷ [])

-- A route error whose lost address is its target goes on by a route that another hop leads, which takes a counter; where the route goes by
-- the sender, none is left, and no frame goes out.
unfoldable pub AnErrorForItsTargetGoesOn : Type 0
AnErrorForItsTargetGoesOn =
    (answers_after 6 error_by_another ≡ answers.Broken ∷ [])
    × (octets_of error_by_another 1 ≡ Some (sealed 2 1 0 (routing_unit (Rerr 2 2))))
    × (counts_of error_by_another ≡ record { events = 7; flights = 1; sends = 0; ups = 0; forged = 1 })
    × (answers_after 6 (two_meters ++ (Near 1 2 1 ∷ Counter 1 4294967295 ∷ Inject 1 1 (error_for 2) ∷ []))
    ≡ answers.Set ∷ answers.CounterSpent ∷ [])
    × (answers_after 6 error_by_its_hop ≡ answers.Broken ∷ [])
    × (counts_of error_by_its_hop ≡ record { events = 7; flights = 0; sends = 0; ups = 0; forged = 1 })

-- # What is shown

-- a meter hears three others, the highest address first, and is shown
abbrev pub heard_from_above : List Event
heard_from_above =
    three_meters
    ++ (Near 1 3 1 ∷ Near 1 2 1 ∷ Near 1 0 1 ∷ Send 3 1 (0xaa ∷ []) ∷ Send 2 1 (0xbb ∷ []) ∷ Send 0 1 (0xcc ∷ [])
    ∷ Deliver 1 1 1 ∷ Deliver 2 1 1 ∷ Deliver 3 1 1 ∷ Show 1 ∷ [])

-- Ranks and marks are shown in the order of addresses, and not in that of hearing.
unfoldable pub WhatIsShownIsInOrder : Type 0
WhatIsShownIsInOrder =
    shown_at_last (run plain start heard_from_above) ≡ Some (record {
      halted = false;
      address = Some 1;
      active = Some 0;
      next_counter = 0;
      last_number = 1;
      key0 = Some group_key;
      key1 = None;
      routes = record { dest = 0; number = 1; cost = 1; next = Some 0 }
          ∷ record { dest = 2; number = 1; cost = 1; next = Some 2 }
          ∷ record { dest = 3; number = 1; cost = 1; next = Some 3 } ∷ [];
      floors = replicate 16 0;
      peers = record { from = 0; mark = 0 } ∷ record { from = 2; mark = 0 } ∷ record { from = 3; mark = 0 } ∷ [];
    })
