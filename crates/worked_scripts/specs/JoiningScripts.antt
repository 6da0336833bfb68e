-- What becomes of joinings: over the air and through an agent, in time and late, with packets that are refused.
use Rattle.std.specs.Prelude.{◌≡◌, ℕ, true, false, List, [], ◌∷◌, ◌++◌, map, replicate, Some, None}
use Rattle.std.specs.List.{range_with_len}
use Rattle.byteorder.specs.Endian.{big_bytes}
use Rattle.plc_base.specs.declared.key.Key.{Key}
use Rattle.plc_base.specs.declared.key.RandomOctets.{RandomOctets as Value}
use Rattle.plc_base.specs.Grant.{Granted}
use Rattle.eap_psk.specs.Messages as packets
use Rattle.eap_psk.specs.declared.server.Server.{Server}
use Rattle.eap_psk.specs.declared.peer.Peer.{Peer}
use Rattle.line_events.specs.declared.event.Answer.TheVariants as answers
use Rattle.line_events.specs.declared.event.Event.{Event}
use Rattle.line_events.specs.declared.event.Event.TheVariants.{Coordinator, Meter, Depot, Near, Counter, Number, Allow, RandomOctets, Join, Deliver, Inject}
use Rattle.line_events.specs.declared.event.Event.TheVariants.{Leave, Tick, Cut}
use Rattle.line_events.specs.declared.event.Event.TheVariants.{Activate, Challenge, Kick}
use Rattle.line_rules.specs.Worlds.{Pairing, start}
use Rattle.line_rules.specs.Runs.{run}
use Rattle.line_progress.specs.Joinings.{doings}
use Rattle.worked_scripts.specs.Scripts.{plain, plain_second, plain_third, plain_fourth, eui, group_key, pair_key, second_key, rand_k, rand_r, rand_p, rand_q}
use Rattle.worked_scripts.specs.Scripts.{alone, up_frame, down_frame, said_of, answers_after, answers_to, counts_of, forged_at_last, takers, doers, admissions}

-- # Over the air

-- a meter is allowed, and asks the coordinator over the air
abbrev pub asking : List Event
asking =
    Coordinator (eui 1) group_key ∷ Meter (eui 2) pair_key ∷ Allow 1 ∷ RandomOctets 0 rand_k ∷ RandomOctets 1 rand_r ∷ Join 1 0 ∷ []

-- the messages of the joining come to their ends
abbrev pub joining : List Event
joining = asking ++ (Deliver 1 0 1 ∷ Deliver 2 1 1 ∷ Deliver 3 0 1 ∷ Deliver 4 1 1 ∷ Deliver 5 0 1 ∷ Deliver 6 1 1 ∷ [])

-- the fourth packet comes again, and the meter learns which key seals
abbrev pub joined : List Event
joined = joining ++ (Deliver 5 0 1 ∷ Activate 1 0 ∷ [])

-- A meter joins over the air: both ends come to an end, and the meter has its address; its session is over, and the keys of its grant are
-- known as issued.
unfoldable pub AMeterJoinsOverTheAir : Type 0
AMeterJoinsOverTheAir =
    (answers_after 2 joining
    ≡ answers.Allowed ∷ answers.Given ∷ answers.Given ∷ answers.Asked ∷ answers.Challenged ∷ answers.Replied ∷ answers.Keyed ∷ answers.Took
    ∷ answers.Done ∷ answers.Noted ∷ [])
    × (admissions (run plain start joining) ≡ record { node = 1; address = 1 } ∷ [])
    × (takers (run plain start joining) ≡ 1 ∷ [])
    × (doers (run plain start joining) ≡ 1 ∷ [])
    × (counts_of joining ≡ record { events = 12; flights = 6; sends = 0; ups = 0; forged = 0 })
    × (answers_after 12 joined ≡ answers.NoSession ∷ answers.Ordered ∷ [])

-- a third packet of an earlier session
abbrev pub joining_again : List Event
joining_again =
    asking ++ (Deliver 1 0 1 ∷ Deliver 2 1 1 ∷ Deliver 3 0 1 ∷ RandomOctets 0 rand_p ∷ RandomOctets 1 rand_q ∷ Join 1 0 ∷ Deliver 5 0 1
    ∷ Deliver 6 1 1 ∷ Deliver 4 1 1 ∷ [])

-- A meter that has asked again hears only what answers that: the third packet of its earlier session is refused.
unfoldable pub AnOldThirdPacketIsRefused : Type 0
AnOldThirdPacketIsRefused = answers_after 13 joining_again ≡ answers.Replied ∷ answers.OtherSession ∷ []

-- the joining of a meter and a coordinator that have no counter and no own number left
abbrev pub joining_without_counters : List Event
joining_without_counters =
    Coordinator (eui 1) group_key ∷ Meter (eui 2) pair_key ∷ Counter 0 4294967295 ∷ Number 0 65535
    ∷ Counter 1 4294967295 ∷ Number 1 65535
    ∷ Allow 1 ∷ RandomOctets 0 rand_k ∷ RandomOctets 1 rand_r ∷ Join 1 0 ∷ Deliver 1 0 1 ∷ Deliver 2 1 1 ∷ Deliver 3 0 1 ∷ Deliver 4 1 1
    ∷ Deliver 5 0 1 ∷ Deliver 6 1 1 ∷ []

-- Plain frames take no counter and no own number.
unfoldable pub PlainFramesTakeNoCounter : Type 0
PlainFramesTakeNoCounter =
    answers_after 10 joining_without_counters
    ≡ answers.Challenged ∷ answers.Replied ∷ answers.Keyed ∷ answers.Took ∷ answers.Done ∷ answers.Noted ∷ []

-- # Through an agent

-- the meter asks a joined one, which carries the messages
abbrev pub by_agent : List Event
by_agent =
    Coordinator (eui 1) group_key ∷ Meter (eui 2) pair_key ∷ Meter (eui 3) second_key ∷ Depot 1 ∷ Near 0 1 1 ∷ Allow 2
    ∷ RandomOctets 0 rand_k ∷ RandomOctets 2 rand_r ∷ Join 2 1
    ∷ Deliver 1 1 1 ∷ Deliver 2 0 1 ∷ Deliver 3 1 1 ∷ Deliver 4 2 1 ∷ Deliver 5 1 1 ∷ Deliver 6 0 1 ∷ Deliver 7 1 1
    ∷ Deliver 8 2 1 ∷ Deliver 9 1 1 ∷ Deliver 10 0 1
    ∷ Deliver 11 1 1 ∷ Deliver 12 2 1 ∷ []

-- A meter joins through another one that is joined, as over the air.
unfoldable pub AMeterJoinsThroughAnAgent : Type 0
AMeterJoinsThroughAnAgent =
    (answers_after 9 by_agent
    ≡ answers.Carried ∷ answers.Challenged ∷ answers.Carried ∷ answers.Replied ∷ answers.Carried ∷ answers.Keyed ∷ answers.Carried
    ∷ answers.Took ∷ answers.Carried ∷ answers.Done ∷ answers.Carried
    ∷ answers.Noted ∷ [])
    × (admissions (run plain start by_agent) ≡ record { node = 2; address = 2 } ∷ [])
    × (takers (run plain start by_agent) ≡ 2 ∷ [])
    × (doers (run plain start by_agent) ≡ 2 ∷ [])
    × (counts_of by_agent ≡ record { events = 21; flights = 12; sends = 0; ups = 0; forged = 0 })

-- # Time

-- the coordinator has challenged the meter
abbrev pub challenged : List Event
challenged = asking ++ (Deliver 1 0 1 ∷ [])

-- A meter's session lasts less than 120 seconds from the call that began it, and again from its answer; the coordinator's lasts less than 120
-- seconds from its first packet, which the third does not lengthen.
unfoldable pub ASessionEndsAfterTwoMinutes : Type 0
ASessionEndsAfterTwoMinutes =
    (answers_to challenged (Tick 119 ∷ Deliver 2 1 1 ∷ Deliver 3 0 1 ∷ Tick 119 ∷ Deliver 4 1 1 ∷ [])
    ≡ answers.Ticked ∷ answers.Replied ∷ answers.Keyed ∷ answers.Ticked ∷ answers.Took ∷ [])
    × (answers_to challenged (Tick 120 ∷ Deliver 2 1 1 ∷ []) ≡ answers.Ticked ∷ answers.NoSession ∷ [])
    × (answers_to challenged (Tick 119 ∷ Deliver 2 1 1 ∷ Deliver 3 0 1 ∷ Tick 120 ∷ Deliver 4 1 1 ∷ [])
    ≡ answers.Ticked ∷ answers.Replied ∷ answers.Keyed ∷ answers.Ticked ∷ answers.NoSession ∷ [])
    × (answers_to challenged (Deliver 2 1 1 ∷ Tick 119 ∷ Deliver 3 0 1 ∷ Deliver 4 1 1 ∷ Deliver 5 0 1 ∷ [])
    ≡ answers.Replied ∷ answers.Ticked ∷ answers.Keyed ∷ answers.Took ∷ answers.Done ∷ [])
    × (answers_to challenged (Deliver 2 1 1 ∷ Tick 119 ∷ Deliver 3 0 1 ∷ Deliver 4 1 1 ∷ Tick 1 ∷ Deliver 5 0 1 ∷ [])
    ≡ answers.Replied ∷ answers.Ticked ∷ answers.Keyed ∷ answers.Took ∷ answers.Ticked ∷ answers.NoSession ∷ [])
    × (answers_to challenged (Deliver 2 1 1 ∷ Tick 120 ∷ Deliver 3 0 1 ∷ [])
    ≡ answers.Replied ∷ answers.Ticked ∷ answers.NoSession ∷ [])

-- # Challenges that are refused

-- a challenge of an agent comes to the meter that asks the coordinator
abbrev pub challenge_by : ℕ → List ℕ → Event
challenge_by agent packet = Inject 1 1 (down_frame 2 agent (said_of 3 2 packet))

-- a meter asks, and has no random value yet
abbrev pub asking_early : List Event
asking_early = Coordinator (eui 1) group_key ∷ Meter (eui 2) pair_key ∷ Meter (eui 3) pair_key ∷ Depot 2 ∷ Join 1 0 ∷ []

-- a first packet in its form
abbrev pub first_packet : List ℕ
first_packet = packets.head 1 1 30 0 rand_k.0 ++ (eui 1).0

-- A challenge comes by the agent that was asked. A packet whose sixth octet begins with two zero bits is a first one, which needs a random value
-- before its form is judged, and leaves it where it is refused; each other one is a third, which needs an answered challenge.
unfoldable pub ChallengesAreJudgedInOrder : Type 0
ChallengesAreJudgedInOrder =
    answers_to asking_early
    (challenge_by 1 (big_bytes 6 0) ∷ challenge_by 0 (big_bytes 6 0) ∷ RandomOctets 1 rand_r ∷ challenge_by 0 (big_bytes 6 0)
    ∷ challenge_by 0 (big_bytes 6 0x40) ∷ challenge_by 0 (big_bytes 5 0)
    ∷ challenge_by 0 first_packet ∷ challenge_by 0 first_packet ∷ challenge_by 0 (big_bytes 6 0x40)
    ∷ Inject 1 1 (down_frame 2 1 (said_of 4 2 [])) ∷ Inject 1 1 (down_frame 2 0 (said_of 4 2 []))
    ∷ challenge_by 0 (big_bytes 6 0x40) ∷ [])
    ≡ answers.NoSession ∷ answers.NoRandom ∷ answers.Given ∷ answers.Form ∷ answers.Form ∷ answers.Form
    ∷ answers.Replied ∷ answers.NoRandom ∷ answers.Form ∷ answers.NoSession ∷ answers.Declined ∷ answers.NoSession ∷ []

-- # Packets that no node made

-- what the coordinator's end of the joining is
abbrev pub server : Server
server = record { eui = eui 2; id_s = eui 1; rand_s = rand_k; rand_p = None }

-- a grant of another address and another key
abbrev pub other_grant : Granted
other_grant = record { address = 5; active = 0; key0 = Some second_key; key1 = None }

-- a third packet that the coordinator did not make, under this pair key
abbrev pub forged_third : Key → Event
forged_third psk = challenge_by 0 (plain_third psk server rand_r other_grant)

-- the meter has answered the challenge
abbrev pub replied : List Event
replied = challenged ++ (Deliver 2 1 1 ∷ [])

-- A pair tag that no node made is named as forged where the node found it right, also where its store fails then; a wrong one is refused.
unfoldable pub AForgedGrantIsNamed : Type 0
AForgedGrantIsNamed =
    (answers_to replied (forged_third pair_key ∷ []) ≡ answers.Took ∷ [])
    × (forged_at_last (run plain start (replied ++ (forged_third pair_key ∷ []))) ≡ true)
    × (answers_to replied (Cut 1 1 false ∷ forged_third pair_key ∷ []) ≡ answers.Set ∷ answers.Store ∷ [])
    × (forged_at_last (run plain start (replied ++ (Cut 1 1 false ∷ forged_third pair_key ∷ []))) ≡ true)
    × (takers (run plain start (replied ++ (Cut 1 1 false ∷ forged_third pair_key ∷ []))) ≡ [])
    × (answers_to replied (forged_third second_key ∷ []) ≡ answers.BadMac ∷ [])
    × (forged_at_last (run plain start (replied ++ (forged_third second_key ∷ []))) ≡ false)

-- the meter's end of the joining
abbrev pub peer : Peer
peer = record { eui = eui 2; id_s = eui 1; rand_s = rand_k; rand_p = rand_r }

-- a packet of the meter comes to the coordinator
abbrev pub answer_by : List ℕ → Event
answer_by packet = Inject 0 1 (up_frame 0 2 (said_of 1 2 packet))

-- A second packet that the meter did not make, under its pair key, is named as forged where the coordinator found its tag right; under another key it
-- is refused and not named.
unfoldable pub AForgedAnswerIsNamed : Type 0
AForgedAnswerIsNamed =
    (answers_to challenged (answer_by (plain_second pair_key 1 peer) ∷ []) ≡ answers.Keyed ∷ [])
    × (forged_at_last (run plain start (challenged ++ (answer_by (plain_second pair_key 1 peer) ∷ []))) ≡ true)
    × (counts_of (challenged ++ (answer_by (plain_second pair_key 1 peer) ∷ []))
    ≡ record { events = 8; flights = 3; sends = 0; ups = 0; forged = 1 })
    × (answers_to challenged (answer_by (plain_second second_key 1 peer) ∷ []) ≡ answers.BadMac ∷ [])
    × (forged_at_last (run plain start (challenged ++ (answer_by (plain_second second_key 1 peer) ∷ []))) ≡ false)

-- second packets without their form, with another identifier, of another session and another meter, and under another pair key; a right one, and
-- then the same of fourth ones
abbrev pub answers_of_a_meter : List Event
answers_of_a_meter =
    answer_by (7 ∷ []) ∷ answer_by (plain_second pair_key 2 peer)
    ∷ answer_by (plain_second pair_key 1 (record peer { rand_s = rand_p }))
    ∷ answer_by (plain_second pair_key 1 (record peer { eui = eui 3 })) ∷ answer_by (plain_second second_key 1 peer)
    ∷ answer_by (plain_second pair_key 1 peer)
    ∷ answer_by (plain_second pair_key 1 peer) ∷ answer_by (plain_fourth pair_key 1 peer)
    ∷ answer_by (plain_fourth pair_key 2 (record peer { rand_s = rand_p }))
    ∷ answer_by (plain_fourth pair_key 2 (record peer { rand_p = rand_k })) ∷ answer_by (plain_fourth pair_key 2 peer)
    ∷ answer_by (plain_fourth pair_key 2 peer) ∷ []

-- third packets of another session, under another pair key and in another channel, one with a grant that is none, and a right one
abbrev pub third_packets : List Event
third_packets =
    challenge_by 0 (big_bytes 6 0x40)
    ∷ challenge_by 0 (plain_third pair_key (record server { rand_s = rand_p }) rand_r other_grant)
    ∷ forged_third second_key
    ∷ challenge_by 0 (plain_third pair_key server rand_k other_grant)
    ∷ challenge_by 0 (plain_third pair_key server rand_r (record other_grant { active = 1 }))
    ∷ forged_third pair_key ∷ forged_third pair_key ∷ []

-- Packets are checked at both ends, and a refused one leaves the session as it was.
unfoldable pub PacketsAreChecked : Type 0
PacketsAreChecked =
    (answers_to challenged answers_of_a_meter
    ≡ answers.Form ∷ answers.Form ∷ answers.OtherSession ∷ answers.OtherSession ∷ answers.BadMac ∷ answers.Keyed ∷ answers.Form ∷ answers.Form
    ∷ answers.OtherSession ∷ answers.BadChannel ∷ answers.Done ∷ answers.NoSession ∷ [])
    × (answers_to replied third_packets
    ≡ answers.Form ∷ answers.OtherSession ∷ answers.BadMac ∷ answers.BadChannel ∷ answers.NoSuccess ∷ answers.Took ∷ answers.BadUnit
    ∷ [])

-- # As many sessions as there is room for

-- a meter of an EUI asks the coordinator
abbrev pub asks : ℕ → Event
asks n = Inject 0 1 (up_frame 0 n (said_of 1 n []))

-- the coordinator allows nine meters, and has a session with eight of them
abbrev pub eight_sessions : List Event
eight_sessions =
    alone ++ (map (λ n. Meter (eui n) pair_key) (range_with_len 2 9)
    ++ (map (λ n. Allow n) (range_with_len 1 9) ++ (replicate 8 (RandomOctets 0 rand_k) ++ map asks (range_with_len 2 8))))

-- The coordinator has eight sessions at most; room is judged before random values, and a meter with a session needs none. A kick makes room.
unfoldable pub EightSessionsAreOpen : Type 0
EightSessionsAreOpen =
    (answers_after 27 eight_sessions ≡ replicate 8 answers.Challenged)
    × (answers_to eight_sessions
    (asks 10 ∷ Challenge 9 ∷ asks 2 ∷ Challenge 1 ∷ RandomOctets 0 rand_k ∷ asks 10 ∷ asks 2 ∷ Kick 1 ∷ asks 10
    ∷ RandomOctets 0 rand_k ∷ asks 10 ∷ [])
    ≡ answers.SessionsFull ∷ answers.SessionsFull ∷ answers.NoRandom ∷ answers.NoRandom ∷ answers.Given ∷ answers.SessionsFull
    ∷ answers.Challenged ∷ answers.Kicked ∷ answers.NoRandom ∷ answers.Given ∷ answers.Challenged ∷ [])

-- # Kicked without a command

-- the meter is kicked, and begins to join
abbrev pub kicked_unaware : List Event
kicked_unaware = joining ++ (Kick 1 ∷ Join 1 0 ∷ [])

-- A meter that was kicked without a route knows nothing of it.
unfoldable pub AKickedMeterMayNotKnow : Type 0
AKickedMeterMayNotKnow =
    (answers_after 12 kicked_unaware ≡ answers.Kicked ∷ answers.AlreadyJoined ∷ [])
    × (counts_of kicked_unaware ≡ record { events = 14; flights = 6; sends = 0; ups = 0; forged = 0 })

-- # Two joinings

-- the meter leaves and joins again, the coordinator being given this value
abbrev pub joining_twice : Value → List Event
joining_twice value =
    joining ++ (Leave 1 ∷ RandomOctets 0 value ∷ RandomOctets 1 rand_q ∷ Join 1 0 ∷ Deliver 7 0 1 ∷ Deliver 8 1 1 ∷ Deliver 9 0 1 ∷ Deliver 10 1 1
    ∷ Deliver 11 0 1 ∷ [])

-- the values of the coordinator in the joinings that are done
abbrev pub values_done : List Event → List Value
values_done events = map (λ (p : Pairing). p.agreed.rand_s) (doings (run plain start events))

-- Two joinings have the two values that the coordinator was given; where it is given one value twice, two joinings have this value.
unfoldable pub TwoJoiningsHaveTwoValues : Type 0
TwoJoiningsHaveTwoValues =
    (doers (run plain start (joining_twice rand_p)) ≡ 1 ∷ 1 ∷ [])
    × (values_done (joining_twice rand_p) ≡ rand_k ∷ rand_p ∷ [])
    × ((counts_of (joining_twice rand_p)).forged ≡ 0)
    × (values_done (joining_twice rand_k) ≡ rand_k ∷ rand_k ∷ [])
    × ((counts_of (joining_twice rand_k)).forged ≡ 0)
