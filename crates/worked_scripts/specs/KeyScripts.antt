-- What becomes of keys: rotation, activation, kicks, and leaving.
use Rattle.std.specs.Prelude.{◌≡◌, ℕ, Bool, true, false, List, [], ◌∷◌, ◌++◌, length, replicate, is_some, Option, Some, None}
use Rattle.std.specs.Option.{option_map}
use Rattle.byteorder.specs.Endian.{big_bytes}
use Rattle.plc_base.specs.declared.key.RandomOctets.{RandomOctets as RandomValue}
use Rattle.eap_psk.specs.Messages as packets
use Rattle.eap_psk.specs.declared.peer.Peer.{Peer}
use Rattle.node_rules.specs.Memory.{Memory}
use Rattle.node_rules.specs.declared.shown.Shown.{Shown}
use Rattle.line_events.specs.declared.event.Answer.TheVariants as answers
use Rattle.line_events.specs.declared.event.Event.{Event}
use Rattle.line_events.specs.declared.event.Event.TheVariants.{Near, Counter, Number, Allow, RandomOctets, Leave, Send, Deliver, Inject, Rekey, Activate}
use Rattle.line_events.specs.declared.event.Event.TheVariants.{Challenge}
use Rattle.line_events.specs.declared.event.Event.TheVariants.{Kick, Show}
use Rattle.line_rules.specs.Worlds.{start}
use Rattle.line_rules.specs.Runs.{run}
use Rattle.worked_scripts.specs.Scripts.{plain, plain_second, plain_fourth, eui, pair_key, second_key, rand_k, rand_r, rand_p, rand_q, two_meters, three_meters}
use Rattle.worked_scripts.specs.Scripts.{sealed, sealed_under, part_of, command, joining_octets, answers_after, answers_to, counts_of, shown_at_last, takers}
use Rattle.worked_scripts.specs.Scripts.{doers, admissions, octets_of, route_at, rank_at, memory_at}

-- # Rotation and kick

-- a meter is kicked, a key is drawn, another meter has it, and it seals
abbrev pub rotation : List Event
rotation =
    three_meters
    ++ (Near 0 1 1 ∷ Near 0 2 1 ∷ Near 0 3 1 ∷ Kick 3 ∷ Rekey 1 second_key ∷ RandomOctets 0 rand_k ∷ RandomOctets 1 rand_r
    ∷ Challenge 1 ∷ Deliver 2 1 1 ∷ Deliver 3 0 1 ∷ Deliver 4 1 1 ∷ Deliver 5 0 1
    ∷ Challenge 3 ∷ Activate 0 1 ∷ Send 0 3 (0xaa ∷ []) ∷ Deliver 7 3 1 ∷ Deliver 1 3 1 ∷ Rekey 1 pair_key
    ∷ Send 2 0 (0xbb ∷ []) ∷ Rekey 0 pair_key ∷ Deliver 8 0 1 ∷ [])

-- A meter is given the second key, a kicked one leaves and hears nothing under it, and what is sealed under the old one opens no more.
unfoldable pub RotationAndKick : Type 0
RotationAndKick =
    (answers_after 10 rotation
    ≡ answers.Kicked ∷ answers.Drawn ∷ answers.Given ∷ answers.Given ∷ answers.Challenged ∷ answers.Replied ∷ answers.Keyed ∷ answers.Took
    ∷ answers.Done
    ∷ answers.NotAllowed ∷ answers.Activated ∷ answers.Sent ∷ answers.NoKey ∷ answers.Left ∷ answers.IndexActive ∷ answers.Sent ∷ answers.Drawn
    ∷ answers.BadTag ∷ [])
    × (takers (run plain start rotation) ≡ 1 ∷ [])
    × (doers (run plain start rotation) ≡ 1 ∷ [])
    × (counts_of rotation ≡ record { events = 28; flights = 8; sends = 2; ups = 0; forged = 0 })

-- # Under the new ring

-- a meter takes a second key, which the coordinator then seals with, and joins again
abbrev pub taken_anew : List Event
taken_anew =
    two_meters
    ++ (Near 0 1 1 ∷ Rekey 1 second_key ∷ RandomOctets 0 rand_p ∷ RandomOctets 1 rand_q ∷ Challenge 1 ∷ Deliver 1 1 1 ∷ Deliver 2 0 1
    ∷ Deliver 3 1 1 ∷ Deliver 4 0 1
    ∷ Activate 0 1 ∷ RandomOctets 0 rand_k ∷ RandomOctets 1 rand_r ∷ Challenge 1 ∷ Deliver 6 1 1 ∷ Deliver 7 0 1 ∷ Deliver 8 1 1 ∷ [])

-- the meter's end of the second joining
abbrev pub second_peer : Peer
second_peer = record { eui = eui 2; id_s = eui 1; rand_s = rand_k; rand_p = rand_r }

-- A meter answers the first packet under the key that it has, and the third under the ring that it was just granted.
unfoldable pub AMeterAnswersUnderItsNewRing : Type 0
AMeterAnswersUnderItsNewRing =
    (answers_after 6 taken_anew
    ≡ answers.Drawn ∷ answers.Given ∷ answers.Given ∷ answers.Challenged ∷ answers.Replied ∷ answers.Keyed ∷ answers.Took ∷ answers.Done
    ∷ answers.Activated ∷ answers.Given ∷ answers.Given ∷ answers.Challenged ∷ answers.Replied ∷ answers.Keyed ∷ answers.Took ∷ [])
    × (octets_of taken_anew 7
    ≡ Some (sealed 0 1 2 (command 1 0 (joining_octets 1 2 (plain_second pair_key 1 second_peer)))))
    × (octets_of taken_anew 9
    ≡ Some (sealed_under second_key 1 0 1 3
    (command 1 0 (joining_octets 1 2 (plain_fourth pair_key 2 second_peer)))))
    × (answers_to taken_anew (Deliver 9 0 1 ∷ Deliver 10 1 1 ∷ []) ≡ answers.Done ∷ answers.Noted ∷ [])
    × (octets_of (taken_anew ++ (Deliver 9 0 1 ∷ [])) 10
    ≡ Some (sealed_under second_key 1 1 0 5 (command 0 1 (joining_octets 2 2 (big_bytes 4 0x03020004)))))

-- # Orders that are refused

-- orders about keys, and a kick between them
abbrev pub orders : List Event
orders =
    Activate 0 1 ∷ Activate 1 1 ∷ Rekey 0 second_key ∷ Rekey 1 second_key ∷ Activate 1 1 ∷ Activate 0 0 ∷ Activate 1 0
    ∷ Kick 1 ∷ Kick 1 ∷ Activate 1 0 ∷ Challenge 1 ∷ Allow 1
    ∷ Activate 1 0 ∷ Challenge 1 ∷ []

-- A key is activated where the coordinator holds it and, for a meter, issued it to that meter; a kick takes back what was issued, and the meter's
-- address stays its own.
unfoldable pub OrdersAreRefused : Type 0
OrdersAreRefused =
    (answers_to two_meters orders
    ≡ answers.NotHeld ∷ answers.NotIssued ∷ answers.IndexActive ∷ answers.Drawn ∷ answers.NotIssued ∷ answers.Activated ∷ answers.Ordered
    ∷ answers.Kicked ∷ answers.NotAllowed ∷ answers.NotAllowed ∷ answers.NotAllowed
    ∷ answers.Allowed ∷ answers.NotIssued ∷ answers.NoRandom ∷ [])
    × (admissions (run plain start (two_meters ++ orders)) ≡ record { node = 1; address = 1 } ∷ [])

-- the key at index 1 was issued to the meter, and another one is drawn for the index
abbrev pub drawn_again : List Event
drawn_again = taken_anew ++ (Activate 0 0 ∷ Rekey 1 pair_key ∷ [])

-- A key that was drawn since is another one than that which was issued at its index.
unfoldable pub AnotherKeyIsNotIssued : Type 0
AnotherKeyIsNotIssued =
    (answers_to taken_anew (Activate 1 1 ∷ []) ≡ answers.Ordered ∷ [])
    × (answers_to drawn_again (Activate 1 1 ∷ Activate 1 0 ∷ []) ≡ answers.NotIssued ∷ answers.Ordered ∷ [])

-- eight bodies wait at the coordinator, for meter 2
abbrev pub eight_sends : List Event
eight_sends = replicate 8 (Send 0 2 (0xaa ∷ []))

-- An order lacks room, a number or a counter as any other command does, a challenge after its random value.
unfoldable pub AnOrderMayLackRoom : Type 0
AnOrderMayLackRoom =
    (answers_to (two_meters ++ eight_sends) (Activate 1 0 ∷ Challenge 1 ∷ RandomOctets 0 rand_k ∷ Challenge 1 ∷ Kick 1 ∷ [])
    ≡ answers.WaitingFull ∷ answers.NoRandom ∷ answers.Given ∷ answers.WaitingFull ∷ answers.Kicked ∷ [])
    × (answers_to (two_meters ++ (Number 0 65535 ∷ [])) (Activate 1 0 ∷ RandomOctets 0 rand_k ∷ Challenge 1 ∷ [])
    ≡ answers.SeqSpent ∷ answers.Given ∷ answers.SeqSpent ∷ [])
    × (answers_to (two_meters ++ (Counter 0 4294967295 ∷ [])) (Activate 1 0 ∷ RandomOctets 0 rand_k ∷ Challenge 1 ∷ [])
    ≡ answers.CounterSpent ∷ answers.Given ∷ answers.CounterSpent ∷ [])
    × (answers_to (two_meters ++ (RandomOctets 0 rand_k ∷ [])) (Activate 1 0 ∷ Challenge 1 ∷ [])
    ≡ answers.Ordered ∷ answers.Challenged ∷ [])

-- # Where KICK goes

-- A kick needs neither a route nor a counter; the word goes out where both are there.
unfoldable pub KickGoesWhereItCan : Type 0
KickGoesWhereItCan =
    (answers_to (two_meters ++ (Near 0 1 1 ∷ [])) (Kick 1 ∷ []) ≡ answers.Kicked ∷ [])
    × (octets_of (two_meters ++ (Near 0 1 1 ∷ Kick 1 ∷ [])) 1
    ≡ Some (sealed 1 0 0 (command 0 1 (joining_octets 5 2 []))))
    × (answers_to (two_meters ++ (Near 0 1 1 ∷ Counter 0 4294967295 ∷ [])) (Kick 1 ∷ []) ≡ answers.Kicked ∷ [])
    × (octets_of (two_meters ++ (Near 0 1 1 ∷ Counter 0 4294967295 ∷ Kick 1 ∷ [])) 1 ≡ None)
    × (octets_of (two_meters ++ (Near 0 1 1 ∷ Counter 0 4294967294 ∷ Kick 1 ∷ [])) 1
    ≡ Some (sealed 1 0 4294967294 (command 0 1 (joining_octets 5 2 []))))
    × (octets_of (two_meters ++ (Kick 1 ∷ [])) 1 ≡ None)

-- # Leaving

-- a meter with a route, a datagram that is gathered, one that waits, a session by command and a random value
abbrev pub holding_much : List Event
holding_much =
    three_meters
    ++ (Near 1 2 1 ∷ RandomOctets 1 rand_r ∷ RandomOctets 1 rand_k
    ∷ Inject 1 1 (sealed 1 2 1 (command 0 1 (joining_octets 3 2 (packets.head 1 1 30 0 rand_k.0 ++ (eui 1).0))))
    ∷ Inject 1 1 (sealed 1 3 1 (part_of 3 1 16 5 0 (replicate 8 1))) ∷ Send 1 3 (0xaa ∷ []) ∷ [])

-- it leaves by itself
abbrev pub left_by_itself : List Event
left_by_itself = holding_much ++ (Leave 1 ∷ [])

-- it leaves by KICK
abbrev pub left_by_order : List Event
left_by_order = holding_much ++ (Inject 1 1 (sealed 1 2 9 (command 0 1 (joining_octets 5 2 []))) ∷ [])

-- What hangs on the address of a meter, counted, and its random values.
pub record Holding : Type 0 where
  pub reassemblies : ℕ
  pub waiting : ℕ
  pub has_session : Bool
  pub randoms : List RandomValue

-- what meter 1 holds
abbrev pub held_at : List Event → Option Holding
held_at events =
    option_map (λ (m : Memory). record {
      reassemblies = length m.station.reassemblies;
      waiting = length m.station.waiting;
      has_session = is_some m.session;
      randoms = m.randoms;
    })
    (memory_at events 1)

-- what it shows once it has left by itself
abbrev pub shown_when_left : Shown
shown_when_left = record {
  halted = false;
  address = None;
  active = None;
  next_counter = 2;
  last_number = 3;
  key0 = None;
  key1 = None;
  routes = record { dest = 2; number = 1; cost = 1; next = None } ∷ [];
  floors = replicate 16 0;
  peers = record { from = 2; mark = 1 } ∷ record { from = 3; mark = 1 } ∷ [];
}

-- Leaving ends the ring, the routes, what is gathered, what waits and the session; ranks, marks, numbers and random values stay.
unfoldable pub LeavingKeepsRanksAndMarks : Type 0
LeavingKeepsRanksAndMarks =
    (answers_after 8 left_by_itself
    ≡ answers.Given ∷ answers.Given ∷ answers.Replied ∷ answers.Held ∷ answers.Waiting ∷ answers.Left ∷ [])
    × (held_at holding_much
    ≡ Some (record { reassemblies = 1; waiting = 2; has_session = true; randoms = rand_k ∷ [] }))
    × (held_at left_by_itself
    ≡ Some (record { reassemblies = 0; waiting = 0; has_session = false; randoms = rand_k ∷ [] }))
    × (shown_at_last (run plain start (left_by_itself ++ (Show 1 ∷ []))) ≡ Some shown_when_left)
    × (answers_after 13 left_by_order ≡ answers.Left ∷ [])
    × (held_at left_by_order
    ≡ Some (record { reassemblies = 0; waiting = 0; has_session = false; randoms = rand_k ∷ [] }))
    × (route_at left_by_order 1 2 ≡ None)
    × (rank_at left_by_order 1 2 ≡ Some (record { number = 1; cost = 1 }))
    × (answers_to left_by_itself (Leave 1 ∷ Send 1 2 (0xaa ∷ []) ∷ []) ≡ answers.NotJoined ∷ answers.NotJoined ∷ [])
