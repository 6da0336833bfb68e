-- What becomes of ranks that messages offer: which are refused, which are kept, and which are forgotten.
use Rattle.std.specs.Prelude.{◌≡◌, ℕ, ◌-◌, List, [], ◌∷◌, ◌++◌, map, Some, None}
use Rattle.std.specs.List.{range_with_len}
use Rattle.byteorder.specs.Endian.{big_bytes}
use Rattle.loadng_messages.specs.declared.message.Message.TheVariants.{Rreq, Rrep, Rerr}
use Rattle.line_events.specs.declared.event.Answer.TheVariants as answers
use Rattle.line_events.specs.declared.event.Event.{Event}
use Rattle.line_events.specs.declared.event.Event.TheVariants.{Near, Counter, Number, Send, Inject, Tick}
use Rattle.worked_scripts.specs.Scripts.{two_meters, three_meters, four_meters, sealed, everyone, routing_unit, answers_after, answers_to, counts_of, octets_of}
use Rattle.worked_scripts.specs.Scripts.{route_at, rank_at, hearing_writes}

-- # Costs that pass 65,535

-- a request that costs 65,500 already, sealed by nobody, over a link of this cost
abbrev pub dear : ℕ → List Event
dear link = two_meters ++ (Inject 1 link (sealed everyone 2 9 (routing_unit (Rreq 5 65500 2 7))) ∷ [])

-- A request goes on as long as its cost has a number of 16 bits.
unfoldable pub CostsAreSpent : Type 0
CostsAreSpent =
    (answers_after 5 (dear 36) ≡ answers.CostSpent ∷ [])
    × (answers_after 5 (dear 35) ≡ answers.Relayed ∷ [])
    × (octets_of (dear 35) 1 ≡ Some (sealed everyone 1 0 (routing_unit (Rreq 5 65535 2 7))))

-- # Requests

-- requests of meter 3 come to meter 1, one after the other, each over a link of cost 1
abbrev pub requests : List Event
requests =
    Inject 1 1 (sealed everyone 3 1 (routing_unit (Rreq 5 0 1 2)))
    ∷ Inject 1 1 (sealed everyone 3 2 (routing_unit (Rreq 5 1 2 3)))
    ∷ Inject 1 1 (sealed everyone 3 3 (routing_unit (Rreq 5 1 2 3)))
    ∷ Inject 1 1 (sealed everyone 3 4 (routing_unit (Rreq 5 65535 2 3)))
    ∷ Inject 1 1 (sealed everyone 3 5 (routing_unit (Rreq 6 65535 2 3)))
    ∷ Inject 1 1 (sealed everyone 3 6 (routing_unit (Rreq 4 0 2 3)))
    ∷ Inject 1 1 (sealed everyone 3 7 (routing_unit (Rreq 5 0 2 3)))
    ∷ Inject 1 1 (sealed everyone 3 8 (routing_unit (Rreq 6 0 2 1)))
    ∷ Inject 1 1 (sealed everyone 3 9 (routing_unit (Rreq 6 0 2 1)))
    ∷ Inject 1 1 (sealed 1 3 10 (routing_unit (Rreq 7 0 2 1)))
    ∷ []

-- A request is taken where its rank beats the kept one: by a greater number, or by a lower cost at the same number. Its own origin refuses it,
-- a sum above 65,535 is compared whole, and one that is not for all is no request. The node that is sought answers with a number of its own.
unfoldable pub RequestsOfferRanks : Type 0
RequestsOfferRanks =
    (answers_to three_meters requests
    ≡ answers.NotBetter ∷ answers.Relayed ∷ answers.NotBetter ∷ answers.NotBetter ∷ answers.CostSpent ∷ answers.NotBetter ∷ answers.Relayed
    ∷ answers.Answered ∷ answers.NotBetter ∷ answers.BadUnit ∷ [])
    × (octets_of (three_meters ++ requests) 1 ≡ Some (sealed everyone 1 0 (routing_unit (Rreq 5 2 2 3))))
    × (octets_of (three_meters ++ requests) 2 ≡ Some (sealed everyone 1 1 (routing_unit (Rreq 5 1 2 3))))
    × (octets_of (three_meters ++ requests) 3 ≡ Some (sealed 3 1 2 (routing_unit (Rrep 2 0 1 2))))
    × (route_at (three_meters ++ requests) 1 2 ≡ Some 3)
    × (rank_at (three_meters ++ requests) 1 2 ≡ Some (record { number = 6; cost = 1 }))
    × (counts_of (three_meters ++ requests) ≡ record { events = 17; flights = 3; sends = 0; ups = 0; forged = 10 })

-- # Replies

-- replies of meter 3 come to meter 1, which has a route to meter 2 and none to the coordinator
abbrev pub replies : List Event
replies =
    Inject 1 1 (sealed 1 3 1 (routing_unit (Rrep 5 0 1 0)))
    ∷ Inject 1 1 (sealed 1 3 2 (routing_unit (Rrep 5 65535 2 0)))
    ∷ Inject 1 1 (sealed 1 3 3 (routing_unit (Rrep 5 0 1 1)))
    ∷ Inject 1 1 (sealed 1 3 4 (routing_unit (Rrep 5 0 1 2)))
    ∷ Inject 1 1 (sealed 1 3 5 (routing_unit (Rrep 1 0 2 1)))
    ∷ Inject 1 1 (sealed 1 3 6 (routing_unit (Rrep 1 65535 2 1)))
    ∷ Inject 1 1 (sealed 1 3 7 (routing_unit (Rrep 2 65535 2 1)))
    ∷ Inject 1 1 (sealed 1 3 8 (routing_unit (Rrep 2 65534 2 1)))
    ∷ Inject 1 1 (sealed 1 3 9 (routing_unit (Rrep 2 65533 2 1)))
    ∷ Inject 1 1 (sealed everyone 3 10 (routing_unit (Rrep 3 0 2 1)))
    ∷ []

-- the meter has a route to meter 2
abbrev pub beside_two : List Event
beside_two = three_meters ++ (Near 1 2 1 ∷ [])

-- A reply to another node needs a route to it; then its rank is judged as that of a request, and one to all is no reply.
unfoldable pub RepliesOfferRanks : Type 0
RepliesOfferRanks =
    (answers_to beside_two replies
    ≡ answers.NoRoute ∷ answers.NoRoute ∷ answers.NotBetter ∷ answers.NotBetter ∷ answers.NotBetter ∷ answers.NotBetter ∷ answers.CostSpent
    ∷ answers.Learned ∷ answers.Learned ∷ answers.BadUnit ∷ [])
    × (rank_at (beside_two ++ replies) 1 2 ≡ Some (record { number = 2; cost = 65534 }))
    × (route_at (beside_two ++ replies) 1 2 ≡ Some 3)
    × (counts_of (beside_two ++ replies) ≡ record { events = 18; flights = 0; sends = 0; ups = 0; forged = 10 })

-- a reply of meter 4 to meter 4 comes from meter 3, where the route to meter 4 went by itself
abbrev pub reply_to_its_origin : List Event
reply_to_its_origin = four_meters ++ (Near 1 4 1 ∷ Inject 1 1 (sealed 1 3 9 (routing_unit (Rrep 5 0 4 4))) ∷ [])

-- A reply goes on by the hop that led to its target before its own offer, also where its origin is its target.
unfoldable pub AReplyGoesByTheHopFromBefore : Type 0
AReplyGoesByTheHopFromBefore =
    (answers_after 10 reply_to_its_origin ≡ answers.Relayed ∷ [])
    × (octets_of reply_to_its_origin 1 ≡ Some (sealed 4 1 0 (routing_unit (Rrep 5 1 4 4))))
    × (route_at reply_to_its_origin 1 4 ≡ Some 3)

-- # Spent numbers and counters

-- a meter has no own number left
abbrev pub numbers_gone : List Event
numbers_gone = two_meters ++ (Number 1 65535 ∷ [])

-- Only the node that is sought needs an own number, which is judged after the rank and before the counters.
unfoldable pub AnAnswerTakesANumber : Type 0
AnAnswerTakesANumber =
    (answers_to numbers_gone
    (Inject 1 1 (sealed everyone 2 1 (routing_unit (Rreq 5 0 2 1)))
    ∷ Inject 1 1 (sealed everyone 2 2 (routing_unit (Rreq 5 0 2 0)))
    ∷ Inject 1 1 (sealed everyone 2 3 (routing_unit (Rreq 5 0 2 1))) ∷ [])
    ≡ answers.SeqSpent ∷ answers.Relayed ∷ answers.NotBetter ∷ [])
    × (answers_to (numbers_gone ++ (Counter 1 4294967295 ∷ []))
    (Inject 1 1 (sealed everyone 2 1 (routing_unit (Rreq 5 0 2 1)))
    ∷ Inject 1 1 (sealed everyone 2 2 (routing_unit (Rreq 5 0 2 0)))
    ∷ Inject 1 1 (sealed 1 2 3 (routing_unit (Rrep 5 0 2 1))) ∷ [])
    ≡ answers.SeqSpent ∷ answers.CounterSpent ∷ answers.Learned ∷ [])

-- # The last second of a route

-- a route that the setup gave, and seconds
abbrev pub route_of_age : ℕ → List Event
route_of_age seconds = two_meters ++ (Near 1 2 1 ∷ Tick seconds ∷ [])

-- A route is valid for less than 21,600 seconds, and its rank stays.
unfoldable pub ARouteEndsAfterSixHours : Type 0
ARouteEndsAfterSixHours =
    (answers_to (route_of_age 21599) (Send 1 2 (0xaa ∷ []) ∷ []) ≡ answers.Sent ∷ [])
    × (answers_to (route_of_age 21600) (Send 1 2 (0xaa ∷ []) ∷ []) ≡ answers.Waiting ∷ [])
    × (rank_at (route_of_age 21600) 1 2 ≡ Some (record { number = 1; cost = 1 }))
    × (route_at (route_of_age 21599 ++ (Tick 1 ∷ [])) 1 2 ≡ None)

-- # A full table

-- a reply of an address with a number comes by meter 2 to meter 1
abbrev pub numbered_reply : (address number counter : ℕ) → Event
numbered_reply address number counter = Inject 1 1 (sealed 1 2 counter (routing_unit (Rrep number 0 address 1)))

-- the replies of the addresses 100 to 163, whose numbers fall from 200 to 137
abbrev pub sixty_four_replies : List Event
sixty_four_replies = map (λ address. numbered_reply address (300 - address) address) (range_with_len 100 64)

-- a meter that keeps 64 ranks, each with a valid route
abbrev pub full : List Event
full = two_meters ++ sixty_four_replies

-- the table after this many seconds
abbrev pub full_after : ℕ → List Event
full_after seconds = full ++ (Tick seconds ∷ [])

-- A full table takes an offer for an address that it keeps, and refuses another one while each of its routes was offered less than 60 seconds
-- ago; the cost is judged before.
unfoldable pub AFullTableRefuses : Type 0
AFullTableRefuses =
    answers_to full
    (numbered_reply 200 9 200 ∷ Inject 1 1 (sealed 1 2 201 (routing_unit (Rrep 9 65535 200 1)))
    ∷ Inject 1 1 (sealed everyone 2 202 (routing_unit (Rreq 9 0 200 3)))
    ∷ numbered_reply 150 151 203 ∷ Tick 59 ∷ numbered_reply 200 9 204 ∷ [])
    ≡ answers.RoutesFull ∷ answers.CostSpent ∷ answers.RoutesFull ∷ answers.Learned ∷ answers.Ticked ∷ answers.RoutesFull ∷ []

-- the first address was offered again after 10 seconds, and another address after 60
abbrev pub offered_again : List Event
offered_again = full ++ (Tick 10 ∷ numbered_reply 100 201 200 ∷ Tick 50 ∷ numbered_reply 200 9 201 ∷ [])

-- After 60 seconds the earliest offer is forgotten, of equal ones the lowest address; its number is the floor of its class, which a rank of that
-- class has to pass.
unfoldable pub AFullTableForgetsTheEarliest : Type 0
AFullTableForgetsTheEarliest =
    (answers_to (full_after 60)
    (numbered_reply 200 9 200 ∷ numbered_reply 100 200 201 ∷ numbered_reply 164 200 202 ∷ numbered_reply 164 201 203
    ∷ numbered_reply 165 199 204 ∷ numbered_reply 165 200 205 ∷ [])
    ≡ answers.Learned ∷ answers.NotBetter ∷ answers.NotBetter ∷ answers.Learned ∷ answers.NotBetter ∷ answers.Learned ∷ [])
    × (rank_at (full_after 60 ++ (numbered_reply 200 9 200 ∷ [])) 1 100 ≡ None)
    × (rank_at (full_after 60 ++ (numbered_reply 200 9 200 ∷ [])) 1 101 ≡ Some (record { number = 199; cost = 1 }))
    × (rank_at offered_again 1 101 ≡ None)
    × (rank_at offered_again 1 100 ≡ Some (record { number = 201; cost = 1 }))

-- two routes of the full table end
abbrev pub two_broken : List Event
two_broken =
    full ++ (Inject 1 1 (sealed 1 2 200 (routing_unit (Rerr 120 1)))
    ∷ Inject 1 1 (sealed 1 2 201 (routing_unit (Rerr 150 1))) ∷ numbered_reply 200 9 202 ∷ [])

-- A rank without a valid route is forgotten before any other one and at once, of several the lowest number.
unfoldable pub AFullTableForgetsTheBroken : Type 0
AFullTableForgetsTheBroken =
    (answers_after 69 two_broken ≡ answers.Broken ∷ answers.Broken ∷ answers.Learned ∷ [])
    × (rank_at two_broken 1 150 ≡ None)
    × (rank_at two_broken 1 120 ≡ Some (record { number = 180; cost = 1 }))
    × (answers_to two_broken (numbered_reply 150 150 203 ∷ numbered_reply 150 151 204 ∷ numbered_reply 201 9 205 ∷ [])
    ≡ answers.NotBetter ∷ answers.Learned ∷ answers.RoutesFull ∷ [])
    × (rank_at (two_broken ++ (numbered_reply 150 151 204 ∷ [])) 1 120 ≡ None)

-- Forgetting stores the floors before the rank, which takes the slot of the forgotten one; nothing of a floor is stored where none rises.
unfoldable pub FloorsAreStoredFirst : Type 0
FloorsAreStoredFirst =
    (hearing_writes (full_after 60) 1 2 (routing_unit (Rrep 9 0 200 1))
    ≡ record { slot = 5; octets = big_bytes 8 0 ++ (big_bytes 2 200 ++ big_bytes 22 0) }
    ∷ record { slot = 0x0200; octets = big_bytes 2 200 ++ (big_bytes 2 9 ++ big_bytes 2 1) } ∷ [])
    × (hearing_writes two_broken 1 2 (routing_unit (Rrep 9 0 201 1))
    ≡ record {
      slot = 5;
      octets = big_bytes 12 0 ++ (big_bytes 2 150 ++ (big_bytes 2 0 ++ (big_bytes 2 180 ++ big_bytes 14 0)));
    }
    ∷ record { slot = 0x0214; octets = big_bytes 2 201 ++ (big_bytes 2 9 ++ big_bytes 2 1) } ∷ [])
    × (hearing_writes (full_after 60) 1 2 (routing_unit (Rrep 250 0 150 1))
    ≡ record { slot = 0x0232; octets = big_bytes 2 150 ++ (big_bytes 2 250 ++ big_bytes 2 1) } ∷ [])

-- # As many senders as there is room for

-- an error of a sender that is no node, which changes nothing
abbrev pub error_of : (sender counter : ℕ) → Event
error_of sender counter = Inject 1 1 (sealed 1 sender counter (routing_unit (Rerr 9 1)))

-- this many senders are heard
abbrev pub senders : ℕ → List Event
senders count = two_meters ++ map (λ sender. error_of sender 5) (range_with_len 100 count)

-- A node hears 64 senders, each by counters that rise, and no other sender.
unfoldable pub ANodeHearsSixtyFourSenders : Type 0
ANodeHearsSixtyFourSenders =
    (answers_to (senders 64)
    (error_of 200 9 ∷ error_of 100 5 ∷ error_of 100 6 ∷ error_of 163 4 ∷ error_of 163 6 ∷ error_of 2 9 ∷ [])
    ≡ answers.PeersFull ∷ answers.Replayed ∷ answers.Broken ∷ answers.Replayed ∷ answers.Broken ∷ answers.PeersFull ∷ [])
    × (answers_to (senders 63) (error_of 200 9 ∷ []) ≡ answers.Broken ∷ [])
