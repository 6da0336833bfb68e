-- What a step stores, in which order, and what is left where a write fails.
use Rattle.std.specs.Prelude.{◌≡◌, ℕ, ◌+◌, Bool, true, false, List, [], ◌∷◌, ◌++◌, map, take, replicate, Option, Some, None}
use Rattle.std.specs.List.{flat_map, range_with_len}
use Rattle.std.specs.Option.{option_map}
use Rattle.std.specs.FinMap.{empty}
use Rattle.byteorder.specs.Endian.{big_bytes}
use Rattle.plc_base.specs.declared.key.Key.{Key}
use Rattle.plc_base.specs.Keeper.{Records, Write}
use Rattle.loadng_messages.specs.declared.message.Message.TheVariants.{Rreq, Rerr}
use Rattle.node_rules.specs.Memory.{Memory}
use Rattle.node_rules.specs.Calls as calls
use Rattle.node_rules.specs.Drafts.{tag_after}
use Rattle.line_events.specs.declared.event.Answer.TheVariants as answers
use Rattle.line_events.specs.declared.event.Event.{Event}
use Rattle.line_events.specs.declared.event.Event.TheVariants.{Coordinator, Meter, Near, Counter, Number, Allow, RandomOctets, Join, Leave, Send, Deliver}
use Rattle.line_events.specs.declared.event.Event.TheVariants.{Inject, Tick}
use Rattle.line_events.specs.declared.event.Event.TheVariants.{Cut, Rekey, Activate, Challenge, Kick}
use Rattle.worked_scripts.specs.Scripts.{eui, group_key, pair_key, second_key, rand_k, rand_r, alone, one_meter, two_meters, sealed, everyone, routing_unit}
use Rattle.worked_scripts.specs.Scripts.{command, joining_octets, answers_after, answers_to, counts_of, octets_of, memory_at, records_at, with_writes}

-- # A store write that fails

-- a loss of power at the first write of a send
abbrev pub cut_off : List Event
cut_off = two_meters ++ (Near 1 2 3 ∷ Cut 1 1 false ∷ Send 1 2 (0xaa ∷ []) ∷ Send 1 2 (0xaa ∷ []) ∷ Deliver 1 2 1 ∷ [])

-- A node whose store write failed halts and sends nothing.
unfoldable pub AFailedWriteHalts : Type 0
AFailedWriteHalts =
    (answers_after 6 cut_off ≡ answers.Set ∷ answers.Store ∷ answers.Halted ∷ [])
    × (counts_of cut_off ≡ record { events = 9; flights = 0; sends = 0; ups = 0; forged = 0 })
    × (answers_after 3 (Coordinator (eui 1) group_key ∷ Meter (eui 2) pair_key ∷ Meter (eui 3) second_key ∷ Cut 0 1 true
    ∷ Allow 1 ∷ Allow 2 ∷ []) ≡ answers.Set ∷ answers.Store ∷ answers.Halted ∷ [])

-- # The writes of a step that makes four

-- a request for meter 1 comes from meter 2, under a loss of power to come
abbrev pub asked_under : Event → List Event
asked_under cut = two_meters ++ (cut ∷ Inject 1 1 (sealed everyone 2 9 (routing_unit (Rreq 5 0 2 1))) ∷ [])

-- what it stores: the mark of the neighbour, the rank of the origin, the limit of the own number, the limit of the send counter
abbrev pub asked_writes : List Write
asked_writes =
    record { slot = 0x0100; octets = big_bytes 2 2 ++ big_bytes 4 72 }
    ∷ record { slot = 0x0200; octets = big_bytes 2 2 ++ (big_bytes 2 5 ++ big_bytes 2 1) }
    ∷ record { slot = 3; octets = big_bytes 2 33 }
    ∷ record { slot = 2; octets = big_bytes 4 1024 }
    ∷ []

-- this many of them, after what the workshop stored
abbrev pub asked_stored : ℕ → Option Records
asked_stored count = with_writes (take count asked_writes) (records_at two_meters 1)

-- A loss of power at the nth write leaves the writes before it and the old or the new record; the node halts, sends nothing, and the frame
-- that it had accepted counts as forged, but not the one whose mark it could not store.
unfoldable pub EachWriteMayFail : Type 0
EachWriteMayFail =
    (answers_after 6 (asked_under (Cut 1 5 false)) ≡ answers.Answered ∷ [])
    × (records_at (asked_under (Cut 1 5 false)) 1 ≡ asked_stored 4)
    × (answers_after 6 (asked_under (Cut 1 1 false)) ≡ answers.Store ∷ [])
    × (records_at (asked_under (Cut 1 1 false)) 1 ≡ asked_stored 0)
    × (records_at (asked_under (Cut 1 1 true)) 1 ≡ asked_stored 1)
    × (counts_of (asked_under (Cut 1 1 true)) ≡ record { events = 7; flights = 0; sends = 0; ups = 0; forged = 0 })
    × (answers_after 6 (asked_under (Cut 1 2 false)) ≡ answers.Store ∷ [])
    × (records_at (asked_under (Cut 1 2 false)) 1 ≡ asked_stored 1)
    × (records_at (asked_under (Cut 1 2 true)) 1 ≡ asked_stored 2)
    × (counts_of (asked_under (Cut 1 2 true)) ≡ record { events = 7; flights = 0; sends = 0; ups = 0; forged = 1 })
    × (records_at (asked_under (Cut 1 3 false)) 1 ≡ asked_stored 2)
    × (records_at (asked_under (Cut 1 3 true)) 1 ≡ asked_stored 3)
    × (records_at (asked_under (Cut 1 4 false)) 1 ≡ asked_stored 3)
    × (records_at (asked_under (Cut 1 4 true)) 1 ≡ asked_stored 4)
    × (answers_after 6 (asked_under (Cut 1 4 true)) ≡ answers.Store ∷ [])
    × (counts_of (asked_under (Cut 1 4 true)) ≡ record { events = 7; flights = 0; sends = 0; ups = 0; forged = 1 })

-- # The writes of a send

-- a datagram in pieces is sent without a route
abbrev pub seeking_under : Event → List Event
seeking_under cut = two_meters ++ (cut ∷ Send 1 2 (replicate 376 7) ∷ [])

-- what it stores: the next tag, the limit of the own number, the limit of the send counter
abbrev pub seeking_stored : ℕ → Option Records
seeking_stored count =
    with_writes (take count
    (record { slot = 4; octets = big_bytes 2 1 } ∷ record { slot = 3; octets = big_bytes 2 33 }
    ∷ record { slot = 2; octets = big_bytes 4 1024 } ∷ []))
    (records_at two_meters 1)

-- A send takes its tag first, also where it waits, then an own number, then its counters; a datagram of 375 octets takes no tag.
unfoldable pub ASendStoresItsTagFirst : Type 0
ASendStoresItsTagFirst =
    (answers_after 6 (seeking_under (Cut 1 4 false)) ≡ answers.Waiting ∷ [])
    × (records_at (seeking_under (Cut 1 4 false)) 1 ≡ seeking_stored 3)
    × (records_at (seeking_under (Cut 1 1 true)) 1 ≡ seeking_stored 1)
    × (records_at (seeking_under (Cut 1 2 false)) 1 ≡ seeking_stored 1)
    × (records_at (seeking_under (Cut 1 2 true)) 1 ≡ seeking_stored 2)
    × (records_at (seeking_under (Cut 1 3 false)) 1 ≡ seeking_stored 2)
    × (answers_after 6 (seeking_under (Cut 1 3 true)) ≡ answers.Store ∷ [])
    × (records_at (seeking_under (Cut 1 3 true)) 1 ≡ seeking_stored 3)
    × (counts_of (seeking_under (Cut 1 3 true)) ≡ record { events = 7; flights = 0; sends = 0; ups = 0; forged = 0 })
    × (records_at (two_meters ++ (Send 1 2 (replicate 375 7) ∷ [])) 1
    ≡ with_writes (record { slot = 3; octets = big_bytes 2 33 } ∷ record { slot = 2; octets = big_bytes 4 1024 } ∷ [])
    (records_at two_meters 1))

-- The tag after the last one is the first.
unfoldable pub TagsBeginAgain : Type 0
TagsBeginAgain = (tag_after 7 ≡ 8) × (tag_after 65535 ≡ 0)

-- # Records of each kind

-- the ring of a node that joined: its address, the active index, and its keys
abbrev pub ring_record : (address active : ℕ) → List ℕ → Write
ring_record address active keys = record { slot = 1; octets = 1 ∷ big_bytes 2 address ++ (active ∷ keys) }

-- a key that is held
abbrev pub held : Key → List ℕ
held key = 1 ∷ key.0

-- a place without a key
abbrev pub no_key : List ℕ
no_key = replicate 17 0

-- the entry of a meter at a place of the book, with its EUI and whether it is allowed
abbrev pub book_record : (place n allowed : ℕ) → List ℕ → Write
book_record place n allowed keys =
    record {
      slot = 0x1000 + place;
      octets = big_bytes 8 n ++ (pair_key.0 ++ (big_bytes 2 (place + 1) ++ (allowed ∷ keys)));
    }

-- The coordinator stores its ring when it begins; the workshop allows a meter, notes its keys as issued, and stores what the setup gives.
unfoldable pub TheWorkshopStores : Type 0
TheWorkshopStores =
    (records_at alone 0 ≡ with_writes (ring_record 0 0 (held group_key ++ no_key) ∷ []) (Some empty))
    × (records_at (alone ++ (Meter (eui 2) pair_key ∷ [])) 1 ≡ Some empty)
    × (records_at one_meter 0
    ≡ with_writes (book_record 0 2 1 (no_key ++ no_key) ∷ book_record 0 2 1 (held group_key ++ no_key) ∷ [])
    (records_at alone 0))
    × (records_at one_meter 1 ≡ with_writes (ring_record 1 0 (held group_key ++ no_key) ∷ []) (Some empty))
    × (records_at (one_meter ++ (Near 0 1 7 ∷ Counter 1 5 ∷ Number 1 9 ∷ [])) 1
    ≡ with_writes
    (record { slot = 0x0200; octets = big_bytes 2 0 ++ (big_bytes 2 1 ++ big_bytes 2 7) }
    ∷ record { slot = 2; octets = big_bytes 4 5 } ∷ record { slot = 3; octets = big_bytes 2 9 } ∷ [])
    (records_at one_meter 1))

-- Orders of the operator are stored before they go out, and a meter that leaves stores that it has no ring.
unfoldable pub OrdersAreStored : Type 0
OrdersAreStored =
    (records_at (alone ++ (Meter (eui 2) pair_key ∷ Meter (eui 3) pair_key ∷ Allow 2 ∷ Allow 1 ∷ Allow 2 ∷ [])) 0
    ≡ with_writes (book_record 0 3 1 (no_key ++ no_key) ∷ book_record 1 2 1 (no_key ++ no_key) ∷ [])
    (records_at alone 0))
    × (records_at (one_meter ++ (Rekey 1 second_key ∷ Activate 0 1 ∷ [])) 0
    ≡ with_writes (ring_record 0 0 (held group_key ++ held second_key)
    ∷ ring_record 0 1 (held group_key ++ held second_key) ∷ []) (records_at one_meter 0))
    × (records_at (one_meter ++ (Near 0 1 1 ∷ Kick 1 ∷ [])) 0
    ≡ with_writes (book_record 0 2 0 (no_key ++ no_key) ∷ record { slot = 2; octets = big_bytes 4 1024 } ∷ [])
    (records_at (one_meter ++ (Near 0 1 1 ∷ [])) 0))
    × (records_at (one_meter ++ (Leave 1 ∷ [])) 1
    ≡ with_writes (record { slot = 1; octets = replicate 38 0 } ∷ []) (records_at one_meter 1))

-- an order for the meter that names the index that is active already
abbrev pub activate_the_active : List ℕ
activate_the_active = sealed 1 2 1 (command 0 1 (joining_octets 6 2 (0 ∷ [])))

-- Nothing is stored of an entry of the book that does not change; a ring is stored also where it does not.
unfoldable pub WhatDoesNotChangeIsNotStored : Type 0
WhatDoesNotChangeIsNotStored =
    (answers_to one_meter (Cut 0 1 false ∷ Allow 1 ∷ Activate 0 0 ∷ []) ≡ answers.Set ∷ answers.Allowed ∷ answers.Store ∷ [])
    × (answers_to two_meters (Cut 1 2 false ∷ Inject 1 1 activate_the_active ∷ []) ≡ answers.Set ∷ answers.Store ∷ [])

-- the first write of each call fails
abbrev pub calls_under_cuts : List (List Event)
calls_under_cuts =
    (Cut 1 1 false ∷ Leave 1 ∷ []) ∷ (Cut 1 1 true ∷ Send 1 0 (0xaa ∷ []) ∷ [])
    ∷ (Cut 0 1 false ∷ Rekey 1 second_key ∷ []) ∷ (Cut 0 1 false ∷ RandomOctets 0 rand_k ∷ Challenge 1 ∷ [])
    ∷ (Cut 0 1 true ∷ Activate 1 0 ∷ []) ∷ (Cut 0 1 false ∷ Kick 1 ∷ [])
    ∷ (Cut 1 2 false ∷ Cut 1 1 false ∷ Leave 1 ∷ []) ∷ []

-- Each call that stores may fail so, and a later cut takes the place of an earlier one.
unfoldable pub EachCallMayFail : Type 0
EachCallMayFail =
    map (λ events. answers_to one_meter events) calls_under_cuts
    ≡ (answers.Set ∷ answers.Store ∷ []) ∷ (answers.Set ∷ answers.Store ∷ []) ∷ (answers.Set ∷ answers.Store ∷ [])
    ∷ (answers.Set ∷ answers.Given ∷ answers.Store ∷ [])
    ∷ (answers.Set ∷ answers.Store ∷ []) ∷ (answers.Set ∷ answers.Store ∷ []) ∷ (answers.Set ∷ answers.Set ∷ answers.Store ∷ []) ∷ []

-- a joining over the air, to its third packet
abbrev pub keyed : List Event
keyed =
    alone ++ (Meter (eui 2) pair_key ∷ Allow 1 ∷ RandomOctets 0 rand_k ∷ RandomOctets 1 rand_r ∷ Join 1 0 ∷ Deliver 1 0 1
    ∷ Deliver 2 1 1 ∷ Deliver 3 0 1 ∷ [])

-- The keys of a grant are stored as issued when they go out, and the meter stores its ring before it answers; nothing else of a joining over
-- the air is stored.
unfoldable pub AJoiningStoresItsKeys : Type 0
AJoiningStoresItsKeys =
    (records_at keyed 0
    ≡ with_writes (book_record 0 2 1 (no_key ++ no_key) ∷ book_record 0 2 1 (held group_key ++ no_key) ∷ [])
    (records_at alone 0))
    × (records_at (keyed ++ (Deliver 4 1 1 ∷ [])) 1
    ≡ with_writes (ring_record 1 0 (held group_key ++ no_key) ∷ []) (Some empty))
    × (records_at (keyed ++ (Deliver 4 1 1 ∷ Deliver 5 0 1 ∷ [])) 0 ≡ records_at keyed 0)

-- # A kick whose word can't be stored

-- the meter is kicked, and the counter of its KICK is the second write
abbrev pub kicked_under : Bool → List Event
kicked_under keeps_new = one_meter ++ (Near 0 1 1 ∷ Cut 0 2 keeps_new ∷ Kick 1 ∷ [])

-- The book is stored before the word goes out: where the second write fails, the kicked entry stays and no word goes out.
unfoldable pub AKickIsStoredFirst : Type 0
AKickIsStoredFirst =
    (answers_after 5 (kicked_under false) ≡ answers.Store ∷ [])
    × (octets_of (kicked_under true) 1 ≡ None)
    × (records_at (kicked_under false) 0
    ≡ with_writes (book_record 0 2 0 (no_key ++ no_key) ∷ []) (records_at (one_meter ++ (Near 0 1 1 ∷ [])) 0))

-- # Limits ahead

-- counters near their end, and a datagram of four pieces
abbrev pub near_the_end : List Event
near_the_end =
    two_meters ++ (Near 1 2 1 ∷ Counter 1 4294967290 ∷ Number 1 65530 ∷ Send 1 2 (replicate 1280 7)
    ∷ Send 1 0 (0xaa ∷ []) ∷ [])

-- A limit that would pass the type's end is stored as that end.
unfoldable pub LimitsStopAtTheEnd : Type 0
LimitsStopAtTheEnd =
    records_at near_the_end 1
    ≡ with_writes
    (record { slot = 2; octets = big_bytes 4 4294967290 } ∷ record { slot = 3; octets = big_bytes 2 65530 }
    ∷ record { slot = 4; octets = big_bytes 2 1 }
    ∷ record { slot = 2; octets = big_bytes 4 4294967295 } ∷ record { slot = 3; octets = big_bytes 2 65535 } ∷ [])
    (records_at (two_meters ++ (Near 1 2 1 ∷ [])) 1)

-- what meter 1 stores for a datagram of four pieces whose first counter is this one, below a limit of 1,024
abbrev pub sent_from : ℕ → Option (List Write)
sent_from next =
    option_map (λ (m : Memory).
    (calls.send (record m.station { counter = record { limit = 1024; next = next } }) 2
    (replicate 1280 7) 1 0).puts)
    (memory_at (two_meters ++ (Near 1 2 1 ∷ [])) 1)

-- A limit that the frames of one step pass is stored once, 1,024 above the old one, after what else the step stores.
unfoldable pub AStepPassesTheLimitOnce : Type 0
AStepPassesTheLimitOnce =
    (sent_from 1020 ≡ Some (record { slot = 4; octets = big_bytes 2 1 } ∷ []))
    × (sent_from 1021 ≡ Some
    (record { slot = 4; octets = big_bytes 2 1 } ∷ record { slot = 2; octets = big_bytes 4 2048 } ∷ []))
    × (sent_from 1023 ≡ Some
    (record { slot = 4; octets = big_bytes 2 1 } ∷ record { slot = 2; octets = big_bytes 4 2048 } ∷ []))

-- errors that change nothing, each under one of the counters
abbrev pub heard_at : List ℕ → List Event
heard_at counters = two_meters ++ map (λ counter. Inject 1 1 (sealed 1 2 counter (routing_unit (Rerr 9 1)))) counters

-- the mark of meter 2 as it is stored
abbrev pub mark_record : ℕ → Write
mark_record mark = record { slot = 0x0100; octets = big_bytes 2 2 ++ big_bytes 4 mark }

-- A mark is stored for a new sender and where the counter passes the stored one, 63 ahead, and at the type's end at most.
unfoldable pub MarksAreStoredAhead : Type 0
MarksAreStoredAhead =
    (records_at (heard_at (5 ∷ 68 ∷ [])) 1 ≡ with_writes (mark_record 68 ∷ []) (records_at two_meters 1))
    × (records_at (heard_at (5 ∷ 69 ∷ [])) 1
    ≡ with_writes (mark_record 68 ∷ mark_record 132 ∷ []) (records_at two_meters 1))
    × (records_at (heard_at (4294967290 ∷ [])) 1 ≡ with_writes (mark_record 4294967295 ∷ []) (records_at two_meters 1))

-- own numbers are taken by requests that end after half a minute
abbrev pub seeking_often : ℕ → List Event
seeking_often times = two_meters ++ flat_map (λ _. Send 1 2 (0xaa ∷ []) ∷ Tick 30 ∷ []) (range_with_len 0 times)

-- The limit of the own number is stored 32 above the last one, at its first number and then at every 32nd.
unfoldable pub NumbersAreStoredAhead : Type 0
NumbersAreStoredAhead =
    (records_at (seeking_often 32) 1
    ≡ with_writes (record { slot = 3; octets = big_bytes 2 33 } ∷ record { slot = 2; octets = big_bytes 4 1024 } ∷ [])
    (records_at two_meters 1))
    × (records_at (seeking_often 33) 1
    ≡ with_writes (record { slot = 3; octets = big_bytes 2 33 } ∷ record { slot = 2; octets = big_bytes 4 1024 }
    ∷ record { slot = 3; octets = big_bytes 2 65 } ∷ []) (records_at two_meters 1))
