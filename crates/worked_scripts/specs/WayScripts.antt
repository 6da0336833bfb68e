-- Which joining messages are taken by which way, and what each other one is answered.
use Rattle.std.specs.Prelude.{◌≡◌, ℕ, ◌+◌, List, [], ◌∷◌, ◌++◌, map, replicate, Some}
use Rattle.byteorder.specs.Endian.{big_bytes}
use Rattle.eap_psk.specs.Messages as packets
use Rattle.line_events.specs.declared.event.Answer.TheVariants as answers
use Rattle.line_events.specs.declared.event.Event.{Event}
use Rattle.line_events.specs.declared.event.Event.TheVariants.{Coordinator, Meter, Near, Counter, Number, RandomOctets, Join, Send, Inject}
use Rattle.worked_scripts.specs.Scripts.{eui, group_key, pair_key, rand_k, rand_r, two_meters, sealed, command, joining_octets, up_frame, down_frame, said_of}
use Rattle.worked_scripts.specs.Scripts.{answers_to, octets_of}

-- an EAP success, as an ACCEPT carries it
abbrev pub success : List ℕ
success = big_bytes 4 0x03020004

-- one message of each kind about the meter of an EUI: JOIN, ACCEPT, CHALLENGE, DECLINE, KICK, ACTIVATE
abbrev pub all_kinds : ℕ → List (List ℕ)
all_kinds n =
    joining_octets 1 n [] ∷ joining_octets 2 n success ∷ joining_octets 3 n (0 ∷ []) ∷ joining_octets 4 n []
    ∷ joining_octets 5 n []
    ∷ joining_octets 6 n (1 ∷ []) ∷ []

-- # At a meter

-- they come to meter 1, each in a plain frame from the node of EUI 9
abbrev pub come_up : ℕ → List Event
come_up n = map (λ octets. Inject 1 1 (up_frame 1 9 (0x40 ∷ 2 ∷ octets))) (all_kinds n)

-- A joined meter carries up a JOIN of the node that sent it, and nothing else.
unfoldable pub OnlyAJoinGoesUp : Type 0
OnlyAJoinGoesUp =
    (answers_to two_meters (come_up 9) ≡ answers.Carried ∷ replicate 5 answers.BadUnit)
    × (answers_to two_meters (come_up 8) ≡ replicate 6 answers.BadUnit)
    × (answers_to two_meters
    (Inject 1 1 (up_frame 1 9 (said_of 1 9 (7 ∷ []))) ∷ Inject 1 1 (up_frame 1 9 (said_of 7 9 []))
    ∷ Inject 1 1 (up_frame 1 9 (0x40 ∷ 2 ∷ [])) ∷ [])
    ≡ answers.Carried ∷ answers.BadUnit ∷ answers.BadUnit ∷ [])
    × (octets_of (two_meters ++ (Near 0 1 1 ∷ come_up 9)) 1 ≡ Some (sealed 0 1 0 (command 1 0 (joining_octets 1 9 []))))

-- they come down to the meter of EUI 2 in plain frames, from an agent
abbrev pub come_down : (agent n : ℕ) → List Event
come_down agent n = map (λ octets. Inject 1 1 (down_frame 2 agent (0x40 ∷ 2 ∷ octets))) (all_kinds n)

-- a meter that asks the coordinator
abbrev pub one_asks : List Event
one_asks = Coordinator (eui 1) group_key ∷ Meter (eui 2) pair_key ∷ Join 1 0 ∷ []

-- A plain frame down is taken for its own EUI alone: an ACCEPT by each meter, a CHALLENGE and a DECLINE by one that asked that agent.
unfoldable pub PlainFramesComeDown : Type 0
PlainFramesComeDown =
    (answers_to two_meters (come_down 0 2) ≡ answers.BadUnit ∷ answers.Noted ∷ replicate 4 answers.BadUnit)
    × (answers_to two_meters (come_down 0 9) ≡ replicate 6 answers.BadUnit)
    × (answers_to one_asks (come_down 3 2)
    ≡ answers.BadUnit ∷ answers.Noted ∷ answers.NoSession ∷ answers.NoSession ∷ answers.BadUnit ∷ answers.BadUnit ∷ [])
    × (answers_to one_asks (come_down 0 2)
    ≡ answers.BadUnit ∷ answers.Noted ∷ answers.Form ∷ answers.Declined ∷ answers.BadUnit ∷ answers.BadUnit ∷ [])
    × (answers_to one_asks (come_down 0 9) ≡ replicate 6 answers.BadUnit)

-- they come to meter 1 in commands of an origin, under counters from this one on
abbrev pub come_over_mesh : (origin : ℕ) → ℕ → List (List ℕ) → List Event
come_over_mesh origin counter [] = []
come_over_mesh origin counter (octets ∷ rest) =
    Inject 1 1 (sealed 1 2 counter (command origin 1 octets)) ∷ come_over_mesh origin (counter + 1) rest

-- a first packet without its form, the index that is active, and one that is not held
abbrev pub more_orders : List (List ℕ)
more_orders = joining_octets 3 2 (big_bytes 6 0) ∷ joining_octets 6 2 (0 ∷ []) ∷ joining_octets 6 2 (1 ∷ []) ∷ []

-- A command is taken from the coordinator's address alone: orders for the own EUI, and what may go down for another one.
unfoldable pub CommandsComeFromTheCoordinator : Type 0
CommandsComeFromTheCoordinator =
    (answers_to two_meters (come_over_mesh 0 1 (all_kinds 2))
    ≡ answers.BadUnit ∷ answers.Noted ∷ answers.NoSession ∷ answers.BadUnit ∷ answers.Left ∷ answers.NotForMe ∷ [])
    × (answers_to two_meters (come_over_mesh 0 1 more_orders) ≡ answers.NoRandom ∷ answers.Activated ∷ answers.NotHeld ∷ [])
    × (answers_to two_meters (come_over_mesh 0 1 (all_kinds 9))
    ≡ answers.BadUnit ∷ answers.Carried ∷ answers.Carried ∷ answers.Carried ∷ answers.BadUnit ∷ answers.BadUnit ∷ [])
    × (octets_of (two_meters ++ come_over_mesh 0 1 (all_kinds 9)) 1 ≡ Some (down_frame 9 1 (said_of 2 9 success)))
    × (octets_of (two_meters ++ come_over_mesh 0 1 (all_kinds 9)) 3 ≡ Some (down_frame 9 1 (said_of 4 9 [])))
    × (answers_to two_meters (come_over_mesh 2 1 (all_kinds 2)) ≡ replicate 6 answers.BadUnit)
    × (answers_to two_meters (come_over_mesh 2 1 (all_kinds 9)) ≡ replicate 6 answers.BadUnit)

-- # At the coordinator

-- they come to the coordinator: in plain frames up and down, and in commands of meter 1 under counters from this one on
abbrev pub reach_up : ℕ → List Event
reach_up n = map (λ octets. Inject 0 1 (up_frame 0 9 (0x40 ∷ 2 ∷ octets))) (all_kinds n)

abbrev pub reach_down : List Event
reach_down = map (λ octets. Inject 0 1 (down_frame 1 5 (0x40 ∷ 2 ∷ octets))) (all_kinds 1)

abbrev pub reach_over_mesh : ℕ → List (List ℕ) → List Event
reach_over_mesh counter [] = []
reach_over_mesh counter (octets ∷ rest) =
    Inject 0 1 (sealed 0 2 counter (command 1 0 octets)) ∷ reach_over_mesh (counter + 1) rest

-- JOIN with a packet of a meter that is not allowed and of one that is, and without one
abbrev pub joins : List (List ℕ)
joins = joining_octets 1 9 (7 ∷ []) ∷ joining_octets 1 2 (7 ∷ []) ∷ joining_octets 1 2 [] ∷ []

-- The coordinator takes a JOIN alone: in a plain frame of its own node, or in a command of any origin about any meter.
unfoldable pub OnlyAJoinReachesTheCoordinator : Type 0
OnlyAJoinReachesTheCoordinator =
    (answers_to two_meters (reach_up 9) ≡ answers.Declined ∷ replicate 5 answers.BadUnit)
    × (answers_to two_meters (reach_up 8) ≡ replicate 6 answers.BadUnit)
    × (answers_to two_meters reach_down ≡ replicate 6 answers.BadUnit)
    × (answers_to two_meters (reach_over_mesh 1 (all_kinds 9)) ≡ answers.Declined ∷ replicate 5 answers.BadUnit)
    × (octets_of (two_meters ++ reach_up 9) 1 ≡ Some (down_frame 9 0 (said_of 4 9 [])))
    × (octets_of (two_meters ++ (Near 0 1 1 ∷ reach_over_mesh 1 (all_kinds 9))) 1
    ≡ Some (sealed 1 0 0 (command 0 1 (joining_octets 4 9 []))))
    × (answers_to two_meters (reach_over_mesh 1 joins) ≡ answers.NotAllowed ∷ answers.NoSession ∷ answers.NoRandom ∷ [])

-- # What an answer by command lacks

-- eight bodies wait at a node, for meter 2
abbrev pub eight_waiting : ℕ → List Event
eight_waiting node = replicate 8 (Send node 2 (0xaa ∷ []))

-- a JOIN to be carried up
abbrev pub a_join : List Event
a_join = Inject 1 1 (up_frame 1 9 (said_of 1 9 [])) ∷ []

-- a first packet in a command
abbrev pub a_challenge : List Event
a_challenge =
    Inject 1 1 (sealed 1 2 1 (command 0 1 (joining_octets 3 2 (packets.head 1 1 30 0 rand_k.0 ++ (eui 1).0)))) ∷ []

-- a JOIN of a meter that is not allowed, in a command
abbrev pub a_join_by_command : List Event
a_join_by_command = Inject 0 1 (sealed 0 2 1 (command 1 0 (joining_octets 1 9 []))) ∷ []

-- An answer that goes by command, as a message that is carried up, lacks room, a number or a counter as any other command does.
unfoldable pub AnAnswerByCommandMayLackRoom : Type 0
AnAnswerByCommandMayLackRoom =
    (answers_to (two_meters ++ eight_waiting 1) a_join ≡ answers.BufferFull ∷ [])
    × (answers_to (two_meters ++ (Number 1 65535 ∷ [])) a_join ≡ answers.SeqSpent ∷ [])
    × (answers_to (two_meters ++ (Counter 1 4294967295 ∷ [])) a_join ≡ answers.CounterSpent ∷ [])
    × (answers_to (two_meters ++ (RandomOctets 1 rand_r ∷ eight_waiting 1)) a_challenge ≡ answers.BufferFull ∷ [])
    × (answers_to (two_meters ++ (Number 1 65535 ∷ RandomOctets 1 rand_r ∷ [])) a_challenge ≡ answers.SeqSpent ∷ [])
    × (answers_to (two_meters ++ (Counter 1 4294967295 ∷ RandomOctets 1 rand_r ∷ [])) a_challenge ≡ answers.CounterSpent ∷ [])
    × (answers_to (two_meters ++ (RandomOctets 1 rand_r ∷ [])) a_challenge ≡ answers.Replied ∷ [])
    × (answers_to (two_meters ++ eight_waiting 0) a_join_by_command ≡ answers.BufferFull ∷ [])
    × (answers_to (two_meters ++ (Number 0 65535 ∷ [])) a_join_by_command ≡ answers.SeqSpent ∷ [])
    × (answers_to (two_meters ++ (Counter 0 4294967295 ∷ [])) a_join_by_command ≡ answers.CounterSpent ∷ [])
