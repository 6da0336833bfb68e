-- What becomes of frames that no node sent, and how frames are spelled.
use Rattle.std.specs.Prelude.{◌≡◌, ℕ, true, false, List, [], ◌∷◌, ◌++◌, replicate, Some}
use Rattle.byteorder.specs.Endian.{big_bytes}
use Rattle.mesh_header.specs.declared.unit.Unit.TheVariants.{Local}
use Rattle.loadng_messages.specs.declared.message.Message.TheVariants.{Rreq, Rerr}
use Rattle.line_events.specs.declared.event.Answer.TheVariants as answers
use Rattle.line_events.specs.declared.event.Event.{Event}
use Rattle.line_events.specs.declared.event.Event.TheVariants.{Coordinator, Meter, Depot, Near, Allow, RandomOctets, Join, Send, Deliver, Inject, Lose}
use Rattle.line_rules.specs.Worlds.{start}
use Rattle.line_rules.specs.Runs.{run}
use Rattle.worked_scripts.specs.Scripts.{plain, eui, group_key, pair_key, rand_k, rand_r, two_meters, sealed, sealed_under, everyone, routing_unit, whole}
use Rattle.worked_scripts.specs.Scripts.{part_of, command, joining_octets, up_frame, down_frame, said_of, answers_after, answers_to, counts_of, handed_at_last}
use Rattle.worked_scripts.specs.Scripts.{forged_at_last, octets_of}
use Rattle.worked_scripts.specs.HopScripts.{one_hop, discovery}

-- # Frames that no node sent

-- a datagram under the key of the group, sealed by nobody, comes to a meter
abbrev pub forging : List Event
forging = two_meters ++ (Near 1 2 3 ∷ Inject 2 1 (sealed 2 1 9 (whole 14 1 2 (0 ∷ []))) ∷ [])

-- A frame with the right key that nobody sent is handed up under the note 0, and named as forged.
unfoldable pub AForgedFrameIsNamed : Type 0
AForgedFrameIsNamed =
    (answers_after 6 forging ≡ answers.Up ∷ [])
    × (handed_at_last (run plain start forging) ≡ Some (record { node = 2; note = 0; octets = 0 ∷ [] }))
    × (forged_at_last (run plain start forging) ≡ true)
    × (counts_of forging ≡ record { events = 7; flights = 0; sends = 0; ups = 1; forged = 1 })

-- a flight is lost, and its octets come by the script
abbrev pub lost_and_injected : List Event
lost_and_injected =
    two_meters ++ (Near 1 2 3 ∷ Send 1 2 (0xaa ∷ []) ∷ Lose 1 ∷ Inject 2 1 (sealed 2 1 0 (whole 14 1 2 (0xaa ∷ [])))
    ∷ [])

-- Octets that a node sent are not forged, also where their flight was lost; their note is the flight's.
unfoldable pub ALostFrameIsNotForged : Type 0
ALostFrameIsNotForged =
    (answers_after 8 lost_and_injected ≡ answers.Up ∷ [])
    × (handed_at_last (run plain start lost_and_injected) ≡ Some (record { node = 2; note = 1; octets = 0xaa ∷ [] }))
    × (forged_at_last (run plain start lost_and_injected) ≡ false)

-- # Malicious frames

-- a sealed frame with a key index and a body of four zeros
abbrev pub sealed_frame : ℕ → ℕ → List ℕ
sealed_frame to index =
    big_bytes 5 0x6998001d78 ++ (to ∷ big_bytes 3 0 ++ (0x0d ∷ big_bytes 4 0 ++ (index ∷ replicate 4 0)))

-- a sealed frame of another network
abbrev pub frame_of_another_network : List ℕ
frame_of_another_network = big_bytes 15 0x6998001e7801000000_0d0000000000 ++ replicate 4 0

-- a route error to all, sealed by nobody
abbrev pub error_to_all : List ℕ
error_to_all = sealed everyone 2 9 (routing_unit (Rerr 2 1))

-- the frames come to a meter that is joined, to one that asks, and to the coordinator
abbrev pub malicious : List Event
malicious =
    Coordinator (eui 1) group_key ∷ Meter (eui 2) pair_key ∷ Meter (eui 3) pair_key ∷ Depot 1 ∷ Join 2 1
    ∷ Inject 1 1 (0 ∷ [])
    ∷ Inject 1 1 (sealed_frame 1 1)
    ∷ Inject 1 1 (sealed_frame 2 0)
    ∷ Inject 1 1 frame_of_another_network
    ∷ Inject 1 1 error_to_all
    ∷ Inject 1 1 (up_frame 1 3 (said_of 1 4 []))
    ∷ Inject 1 1 (up_frame 1 3 (said_of 1 3 []))
    ∷ Inject 2 1 (down_frame 3 1 (said_of 5 3 []))
    ∷ Inject 2 1 (down_frame 3 0 (said_of 3 3 (0 ∷ [])))
    ∷ Inject 2 1 (down_frame 3 1 (said_of 3 3 (0 ∷ [])))
    ∷ Inject 2 1 (down_frame 3 1 (said_of 4 3 []))
    ∷ Inject 2 1 (down_frame 3 1 (said_of 4 3 []))
    ∷ Inject 0 1 (up_frame 0 9 (said_of 1 9 []))
    ∷ Inject 0 1 (up_frame 0 9 (said_of 1 9 (0 ∷ [])))
    ∷ Inject 0 1 (up_frame 0 2 (said_of 1 2 (0 ∷ [])))
    ∷ Inject 0 1 (up_frame 0 2 (said_of 1 2 []))
    ∷ Inject 0 1 (up_frame 0 9 (0x3f ∷ []))
    ∷ []

-- Each malicious frame is refused by name, or answered as any other.
unfoldable pub MaliciousFramesAreRefused : Type 0
MaliciousFramesAreRefused =
    (answers_after 5 malicious
    ≡ answers.Malformed ∷ answers.NoKey ∷ answers.NotForMe ∷ answers.NotForMe ∷ answers.BadUnit ∷ answers.BadUnit ∷ answers.Carried
    ∷ answers.BadUnit ∷ answers.NoSession ∷ answers.Form ∷ answers.Declined ∷ answers.NoSession
    ∷ answers.Declined ∷ answers.NotAllowed ∷ answers.NoSession ∷ answers.NoRandom ∷ answers.BadUnit ∷ [])
    × (counts_of malicious ≡ record { events = 22; flights = 3; sends = 0; ups = 0; forged = 1 })

-- # Whom a frame is for

-- the meters 1 and 2 are joined, meter 3 is not
abbrev pub two_of_three : List Event
two_of_three =
    Coordinator (eui 1) group_key ∷ Meter (eui 2) pair_key ∷ Meter (eui 3) pair_key ∷ Meter (eui 4) pair_key ∷ Depot 1
    ∷ Depot 2 ∷ []

-- frames for other nodes, from the node itself, for a node without an address, under another key, and a plain one for all
abbrev pub for_others : List Event
for_others =
    Inject 1 1 (sealed 2 3 1 (whole 14 3 2 (0 ∷ [])))
    ∷ Inject 1 1 (sealed 1 1 1 (whole 14 1 1 (0 ∷ [])))
    ∷ Inject 1 1 (up_frame 2 4 (said_of 1 4 []))
    ∷ Inject 1 1 (up_frame 1 2 (said_of 1 2 []))
    ∷ Inject 1 1 (down_frame 3 0 (said_of 2 3 (big_bytes 4 0x03020004)))
    ∷ Inject 1 1 (down_frame 2 1 (said_of 2 2 (big_bytes 4 0x03020004)))
    ∷ Inject 3 1 (sealed 1 2 1 (whole 14 2 1 (0 ∷ [])))
    ∷ Inject 3 1 (up_frame 1 9 (said_of 1 9 []))
    ∷ Inject 3 1 (sealed everyone 2 1 (routing_unit (Rreq 5 0 2 1)))
    ∷ Inject 3 1 (down_frame 4 1 (said_of 2 4 (big_bytes 4 0x03020004)))
    ∷ Inject 1 1 (sealed_under pair_key 0 1 3 1 (whole 14 3 1 (0 ∷ [])))
    ∷ Inject 1 1 (big_bytes 7 0x61d8001d78ffff ++ (9 ∷ big_bytes 7 0 ++ said_of 1 9 []))
    ∷ []

-- A frame is for a node by its address, by its EUI or, sealed, to all, and from another node; a node without a ring has no key for what goes to
-- all.
unfoldable pub FramesHaveTheirNodes : Type 0
FramesHaveTheirNodes =
    answers_to two_of_three for_others
    ≡ replicate 8 answers.NotForMe ++ (answers.NoKey ∷ answers.Noted ∷ answers.BadTag ∷ answers.NotForMe ∷ [])

-- # Units that go to all

-- units that may not go to all, joining commands for a neighbour, commands that no line uses yet, and a route message without a reading
abbrev pub units_out_of_place : List Event
units_out_of_place =
    Inject 1 1 (sealed everyone 2 1 (whole 14 2 1 (0 ∷ [])))
    ∷ Inject 1 1 (sealed everyone 2 2 (part_of 2 1 16 5 0 (replicate 8 1)))
    ∷ Inject 1 1 (sealed everyone 2 3 (command 2 1 (0 ∷ [])))
    ∷ Inject 1 1 (sealed everyone 2 4 (Local 2 (joining_octets 4 2 [])))
    ∷ Inject 1 1 (sealed 1 2 5 (Local 2 (joining_octets 4 2 [])))
    ∷ Inject 1 1 (sealed 1 2 6 (Local 3 (0 ∷ [])))
    ∷ Inject 1 1 (sealed everyone 2 7 (Local 4 (0 ∷ [])))
    ∷ Inject 1 1 (sealed 1 2 8 (Local 5 (0 ∷ [])))
    ∷ Inject 1 1 (sealed 1 2 9 (Local 1 (1 ∷ 0 ∷ [])))
    ∷ Inject 1 1 (up_frame 1 9 (0xbe ∷ 0 ∷ 9 ∷ 0 ∷ 1 ∷ 0x41 ∷ 0 ∷ []))
    ∷ []

-- A sealed frame to all carries no unit over the mesh, a sealed one to a neighbour no joining command, and a plain one nothing else.
unfoldable pub UnitsHaveTheirPaths : Type 0
UnitsHaveTheirPaths =
    (answers_to two_meters units_out_of_place ≡ replicate 10 answers.BadUnit)
    × (counts_of (two_meters ++ units_out_of_place)
    ≡ record { events = 15; flights = 0; sends = 0; ups = 0; forged = 9 })

-- # The octets of frames

-- a joining with EUIs and keys whose octets all differ
abbrev pub named_joining : List Event
named_joining =
    Coordinator (record { 0 = big_bytes 8 0xaabbccddeeff0011 }) group_key
    ∷ Meter (record { 0 = big_bytes 8 0x0102030405060708 }) pair_key ∷ Allow 1 ∷ RandomOctets 0 rand_k ∷ RandomOctets 1 rand_r
    ∷ Join 1 0 ∷ Deliver 1 0 1 ∷ Deliver 2 1 1 ∷ Deliver 3 0 1 ∷ Deliver 4 1 1 ∷ Deliver 5 0 1 ∷ Deliver 6 1 1 ∷ []

-- The octets of frames are those of the formats: a sealed frame's header and unit, the same after a relay, with one hop less, and the plain
-- frames that ask, challenge and accept.
unfoldable pub FramesAreSpelled : Type 0
FramesAreSpelled =
    (octets_of one_hop 1
    ≡ Some (big_bytes 15 0x6998001d7802000100_0d0000000000
    ++ (big_bytes 11 0xbe000100024148656c6c6f ++ big_bytes 4 0x00010203)))
    × (octets_of discovery 1
    ≡ Some (big_bytes 15 0x4998001d78ffff0100_0d0000000000
    ++ (big_bytes 11 0x4001010002000000010004 ++ big_bytes 4 0x00010203)))
    × (octets_of discovery 7
    ≡ Some (big_bytes 15 0x6998021d78040002000d0200000000
    ++ (big_bytes 7 0xbd0001000441aa ++ big_bytes 4 0x00010203)))
    × (octets_of named_joining 1
    ≡ Some (big_bytes 18 0x61d8001d7800000807060504030201400201 ++ big_bytes 8 0x0102030405060708))
    × (octets_of named_joining 2
    ≡ Some (big_bytes 18 0x619c001d7808070605040302010000400203
    ++ (big_bytes 8 0x0102030405060708
    ++ (big_bytes 6 0x0101001e2f00 ++ (group_key.0 ++ big_bytes 8 0xaabbccddeeff0011)))))
    × (octets_of named_joining 6
    ≡ Some (big_bytes 18 0x619c001d7808070605040302010000400202
    ++ (big_bytes 8 0x0102030405060708 ++ big_bytes 4 0x03020004)))
