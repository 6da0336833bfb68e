-- What becomes of bodies that wait for a route, and of what a node sends with few counters left.
use Rattle.std.specs.Prelude.{◌≡◌, ℕ, List, [], ◌∷◌, ◌++◌, replicate, Some, None}
use Rattle.loadng_messages.specs.declared.message.Message.TheVariants.{Rreq, Rrep}
use Rattle.line_events.specs.declared.event.Answer.TheVariants as answers
use Rattle.line_events.specs.declared.event.Event.{Event}
use Rattle.line_events.specs.declared.event.Event.TheVariants.{Near, Counter, Number, Send, Deliver, Inject, Tick}
use Rattle.line_rules.specs.Worlds.{start}
use Rattle.line_rules.specs.Runs.{run}
use Rattle.worked_scripts.specs.Scripts.{plain, one_meter, two_meters, sealed, everyone, routing_unit, whole, part_of, answers_after, answers_to, counts_of}
use Rattle.worked_scripts.specs.Scripts.{handed_at_last, octets_of, route_at, rank_at}

-- # Bodies that leave

-- two datagrams and one in pieces wait for meter 2, and one for the coordinator; then meter 2 answers
abbrev pub leaving : List Event
leaving =
    two_meters
    ++ (Send 1 2 (0xaa ∷ []) ∷ Send 1 0 (0xdd ∷ []) ∷ Send 1 2 (replicate 376 7) ∷ Send 1 2 (0xcc ∷ []) ∷ Deliver 1 2 1
    ∷ Deliver 3 1 1 ∷ [])

-- One request seeks a route for all that waits; then what waits for it leaves, in the order of its arrival, and the rest waits.
unfoldable pub WhatWaitsLeavesInOrder : Type 0
WhatWaitsLeavesInOrder =
    (answers_after 5 leaving
    ≡ answers.Waiting ∷ answers.Waiting ∷ answers.Waiting ∷ answers.Waiting ∷ answers.Answered ∷ answers.Learned ∷ [])
    × (octets_of leaving 1 ≡ Some (sealed everyone 1 0 (routing_unit (Rreq 2 0 1 2))))
    × (octets_of leaving 2 ≡ Some (sealed everyone 1 1 (routing_unit (Rreq 3 0 1 0))))
    × (octets_of leaving 3 ≡ Some (sealed 1 2 0 (routing_unit (Rrep 2 0 2 1))))
    × (octets_of leaving 4 ≡ Some (sealed 2 1 2 (whole 14 1 2 (0xaa ∷ []))))
    × (octets_of leaving 5 ≡ Some (sealed 2 1 3 (part_of 1 2 376 0 0 (replicate 368 7))))
    × (octets_of leaving 6 ≡ Some (sealed 2 1 4 (part_of 1 2 376 0 46 (replicate 8 7))))
    × (octets_of leaving 7 ≡ Some (sealed 2 1 5 (whole 14 1 2 (0xcc ∷ []))))
    × (counts_of leaving ≡ record { events = 11; flights = 7; sends = 4; ups = 0; forged = 0 })
    × (handed_at_last (run plain start
    (leaving ++ (Deliver 4 2 1 ∷ Deliver 5 2 1 ∷ Deliver 6 2 1 ∷ Deliver 7 2 1 ∷ []))) ≡ Some (record
    { node = 2; note = 4; octets = 0xcc ∷ [] }))
    × (answers_to leaving (Send 1 0 (0xee ∷ []) ∷ Send 1 2 (0xee ∷ []) ∷ []) ≡ answers.Waiting ∷ answers.Sent ∷ [])
    × (counts_of (leaving ++ (Send 1 0 (0xee ∷ []) ∷ []))
    ≡ record { events = 12; flights = 7; sends = 5; ups = 0; forged = 0 })

-- a datagram waits for meter 2, whose own request comes
abbrev pub leaving_at_a_request : List Event
leaving_at_a_request =
    two_meters ++ (Send 1 2 (0xaa ∷ []) ∷ Inject 1 1 (sealed everyone 2 9 (routing_unit (Rreq 5 0 2 1))) ∷ [])

-- What waits for the origin of a request leaves before the answer to it, whose number was taken before.
unfoldable pub WhatWaitsLeavesBeforeTheAnswer : Type 0
WhatWaitsLeavesBeforeTheAnswer =
    (answers_after 6 leaving_at_a_request ≡ answers.Answered ∷ [])
    × (octets_of leaving_at_a_request 2 ≡ Some (sealed 2 1 1 (whole 14 1 2 (0xaa ∷ []))))
    × (octets_of leaving_at_a_request 3 ≡ Some (sealed 2 1 2 (routing_unit (Rrep 3 0 1 2))))

-- # Room

-- eight datagrams wait
abbrev pub eight_wait : List Event
eight_wait = one_meter ++ replicate 8 (Send 1 0 (0xaa ∷ []))

-- Eight bodies wait at most, and a route needs no room.
unfoldable pub EightBodiesWait : Type 0
EightBodiesWait =
    (answers_after 3 eight_wait ≡ replicate 8 answers.Waiting)
    × (answers_to eight_wait (Send 1 0 (0xaa ∷ []) ∷ []) ≡ answers.WaitingFull ∷ [])
    × (counts_of eight_wait ≡ record { events = 11; flights = 1; sends = 8; ups = 0; forged = 0 })
    × (answers_to (one_meter ++ (Near 1 0 1 ∷ replicate 9 (Send 1 0 (0xaa ∷ [])))) (Send 1 0 (0xaa ∷ []) ∷ [])
    ≡ answers.Sent ∷ [])

-- four datagrams of 19 blocks wait
abbrev pub blocks_wait : List Event
blocks_wait = one_meter ++ replicate 4 (Send 1 0 (replicate 1216 7))

-- They fill 80 blocks of 64 octets at most.
unfoldable pub EightyBlocksWait : Type 0
EightyBlocksWait =
    answers_to blocks_wait (Send 1 0 (replicate 257 7) ∷ Send 1 0 (replicate 256 7) ∷ Send 1 0 (0xaa ∷ []) ∷ [])
    ≡ answers.WaitingFull ∷ answers.Waiting ∷ answers.WaitingFull ∷ []

-- # Time

-- a datagram waits for meter 2, and one came later
abbrev pub waited : ℕ → List Event
waited seconds = two_meters ++ (Send 1 2 (0xaa ∷ []) ∷ Tick 10 ∷ Send 1 2 (0xbb ∷ []) ∷ Tick seconds ∷ [])

-- meter 2 answers the first request
abbrev pub answered_late : ℕ → List Event
answered_late seconds = waited seconds ++ (Deliver 1 2 1 ∷ Deliver 2 1 1 ∷ [])

-- A body waits for less than 30 seconds. Once none waits for an address, its route is sought anew.
unfoldable pub WaitingEndsAfterHalfAMinute : Type 0
WaitingEndsAfterHalfAMinute =
    (counts_of (answered_late 19) ≡ record { events = 11; flights = 4; sends = 2; ups = 0; forged = 0 })
    × (counts_of (answered_late 20) ≡ record { events = 11; flights = 3; sends = 2; ups = 0; forged = 0 })
    × (octets_of (answered_late 20) 3 ≡ Some (sealed 2 1 1 (whole 14 1 2 (0xbb ∷ []))))
    × (answers_to (waited 30) (Send 1 2 (0xcc ∷ []) ∷ []) ≡ answers.Waiting ∷ [])
    × (octets_of (waited 29 ++ (Send 1 2 (0xcc ∷ []) ∷ [])) 2 ≡ None)
    × (octets_of (waited 30 ++ (Send 1 2 (0xcc ∷ []) ∷ [])) 2
    ≡ Some (sealed everyone 1 1 (routing_unit (Rreq 3 0 1 2))))

-- # Numbers

-- one own number is left
abbrev pub one_number : List Event
one_number = two_meters ++ (Number 1 65534 ∷ [])

-- An own number is taken for the first body that waits for an address, and judged after the room and before the counters.
unfoldable pub SeekingTakesANumber : Type 0
SeekingTakesANumber =
    (answers_to one_number (Send 1 2 (0xaa ∷ []) ∷ Send 1 2 (0xaa ∷ []) ∷ Send 1 0 (0xaa ∷ []) ∷ [])
    ≡ answers.Waiting ∷ answers.Waiting ∷ answers.SeqSpent ∷ [])
    × (answers_to (one_number ++ replicate 8 (Send 1 2 (0xaa ∷ []))) (Send 1 0 (0xaa ∷ []) ∷ [])
    ≡ answers.WaitingFull ∷ [])
    × (answers_to (two_meters ++ (Number 1 65535 ∷ Counter 1 4294967295 ∷ [])) (Send 1 2 (0xaa ∷ []) ∷ [])
    ≡ answers.SeqSpent ∷ [])

-- # Counters

-- this many counters are gone
abbrev pub gone : ℕ → List Event
gone counters = two_meters ++ (Counter 1 counters ∷ [])

-- A body that waits takes a counter for its request alone, and none where the route is sought already.
unfoldable pub SeekingTakesACounter : Type 0
SeekingTakesACounter =
    (answers_to (gone 4294967294) (Send 1 2 (0xaa ∷ []) ∷ Send 1 2 (replicate 376 7) ∷ Send 1 0 (0xaa ∷ []) ∷ [])
    ≡ answers.Waiting ∷ answers.Waiting ∷ answers.CounterSpent ∷ [])
    × (answers_to (two_meters ++ (Near 1 2 1 ∷ Counter 1 4294967294 ∷ []))
    (Send 1 2 (replicate 376 7) ∷ Send 1 2 (0xaa ∷ []) ∷ Send 1 2 (0xaa ∷ []) ∷ [])
    ≡ answers.CounterSpent ∷ answers.Sent ∷ answers.CounterSpent ∷ [])

-- a datagram of two pieces and one of one frame wait, with this many counters gone before the request
abbrev pub three_frames_wait : ℕ → List Event
three_frames_wait counters = gone counters ++ (Send 1 2 (replicate 376 7) ∷ Send 1 2 (0xaa ∷ []) ∷ [])

-- a reply that makes the route valid, a request of its target, and one for the coordinator
abbrev pub reply_that_frees : Event
reply_that_frees = Inject 1 1 (sealed 1 2 9 (routing_unit (Rrep 5 0 2 1)))

abbrev pub request_for : ℕ → Event
request_for dest = Inject 1 1 (sealed everyone 2 9 (routing_unit (Rreq 5 0 2 dest)))

-- All pieces of what waits count, and beside them the frame of the answer or of the message that goes on; a refusal makes no route.
unfoldable pub WaitingPiecesTakeCounters : Type 0
WaitingPiecesTakeCounters =
    (answers_to (three_frames_wait 4294967291) (reply_that_frees ∷ []) ≡ answers.Learned ∷ [])
    × (counts_of (three_frames_wait 4294967291 ++ (reply_that_frees ∷ []))
    ≡ record { events = 9; flights = 4; sends = 2; ups = 0; forged = 1 })
    × (answers_to (three_frames_wait 4294967292) (reply_that_frees ∷ []) ≡ answers.CounterSpent ∷ [])
    × (route_at (three_frames_wait 4294967292 ++ (reply_that_frees ∷ [])) 1 2 ≡ None)
    × (rank_at (three_frames_wait 4294967292 ++ (reply_that_frees ∷ [])) 1 2 ≡ None)
    × (answers_to (three_frames_wait 4294967291) (request_for 1 ∷ []) ≡ answers.CounterSpent ∷ [])
    × (answers_to (three_frames_wait 4294967290) (request_for 1 ∷ []) ≡ answers.Answered ∷ [])
    × (answers_to (three_frames_wait 4294967291) (request_for 0 ∷ []) ≡ answers.CounterSpent ∷ [])
    × (answers_to (three_frames_wait 4294967290) (request_for 0 ∷ []) ≡ answers.Relayed ∷ [])

-- Nothing is sent without a counter, nor sought without an own number.
unfoldable pub NothingIsSentWhenSpent : Type 0
NothingIsSentWhenSpent =
    (answers_after 3 (one_meter ++ (Counter 1 4294967295 ∷ Send 1 0 (0xaa ∷ []) ∷ []))
    ≡ answers.Set ∷ answers.CounterSpent ∷ [])
    × (answers_after 3 (one_meter ++ (Number 1 65535 ∷ Send 1 0 (0xaa ∷ []) ∷ [])) ≡ answers.Set ∷ answers.SeqSpent ∷ [])
    × (answers_after 3 (one_meter ++ (Near 0 1 1 ∷ Counter 1 4294967295 ∷ Send 1 0 (0xaa ∷ []) ∷ []))
    ≡ answers.Set ∷ answers.Set ∷ answers.CounterSpent ∷ [])
