-- Laws of the four messages, over their definitions alone: what one end makes, the other takes, and both then hold the same.
use Rattle.std.specs.Prelude.{◌≡◌, ◌≤◌, ◌<◌, ℕ, List, ◌++◌, length, None}
use Rattle.plc_base.specs.Fields.{AreOctets}
use Rattle.plc_base.specs.Grant.{Granted}
use Rattle.plc_base.specs.declared.address.Eui.{Eui}
use Rattle.plc_base.specs.declared.key.RandomOctets.{RandomOctets}
use Rattle.joining_messages.specs.Grants.{IsGranted, IsPlace}
use Rattle.joining_messages.specs.Laws.{GrantHasOctets}
use Rattle.eap_psk.specs.declared.server.Server.{Server}
use Rattle.eap_psk.specs.declared.peer.Peer.{Peer}
use Rattle.eap_psk.specs.Keys.{PairKeys, keys_of, transient_key}
use Rattle.eap_psk.specs.Messages.{First, Second, Third, Fourth, head, granting_text}
use Rattle.eap_psk.specs.Sessions.{second_packet, third_packet, fourth_packet}
use Rattle.eap_psk.specs.Faults.{rand_p_of, first_fault, second_fault, third_fault, fourth_fault}
use Rattle.eap_psk.specs.Tags.{granting_tag, success_tag}

-- a first message has no fault
abbrev pub FirstIsTaken : Type 0
FirstIsTaken =
    (identifier : ℕ) (rand_s id_s packet : List ℕ) → length rand_s ≡ 16 → length id_s ≡ 8
    → First identifier rand_s id_s packet → first_fault packet ≡ None

-- and is of one session
abbrev pub FirstNamesTheSession : Type 0
FirstNamesTheSession =
    (i j : ℕ) (rand_s rand_s' id_s id_s' packet : List ℕ) → length rand_s ≡ 16 → length rand_s' ≡ 16
    → First i rand_s id_s packet → First j rand_s' id_s' packet → (i ≡ j) × (rand_s ≡ rand_s') × (id_s ≡ id_s')

-- a second message of the server's session, under the same AK, has no fault, and the server takes its RAND_P
abbrev pub SecondIsTaken : Type 0
SecondIsTaken =
    (keys : PairKeys) (server : Server) (rand_p packet : List ℕ) → length server.rand_s.0 ≡ 16 → length rand_p ≡ 16
    → length server.eui.0 ≡ 8
    → Second keys.ak 1 server.rand_s.0 rand_p server.id_s.0 server.eui.0 packet
    → (second_fault keys server packet ≡ None) × (rand_p_of packet ≡ rand_p)

-- a third message of the peer's session, under the same keys, has no fault
abbrev pub ThirdIsTaken : Type 0
ThirdIsTaken =
    (keys : PairKeys) (peer : Peer) (identifier : ℕ) (grant : Granted) (packet : List ℕ) → length peer.rand_s.0 ≡ 16
    → IsGranted grant
    → Third keys.ak (transient_key keys.kdk peer.rand_p.0) identifier peer.rand_s.0 peer.rand_p.0 peer.id_s.0
    (granting_text grant) packet → third_fault keys peer packet ≡ None

-- and grants one thing
abbrev pub ThirdGrantsOneThing : Type 0
ThirdGrantsOneThing =
    (ak tek : List ℕ) (i j : ℕ) (rand_s rand_p id_s : List ℕ) (g h : Granted) (packet : List ℕ) → length rand_s ≡ 16
    → IsGranted g → IsGranted h
    → Third ak tek i rand_s rand_p id_s (granting_text g) packet
    → Third ak tek j rand_s rand_p id_s (granting_text h) packet → g ≡ h

-- a fourth message of the server's session, under the same TEK, has no fault
abbrev pub FourthIsTaken : Type 0
FourthIsTaken =
    (keys : PairKeys) (server : Server) (rand_p packet : List ℕ) → length server.rand_s.0 ≡ 16
    → Fourth (transient_key keys.kdk rand_p) 2 server.rand_s.0 packet → fourth_fault keys server rand_p packet ≡ None

-- The tag of a channel that grants names the node, both random values and the grant: where a peer opened the tag that a server
-- made, both hold the same.
abbrev pub GrantingTagsAgree : Type 0
GrantingTagsAgree =
    (eui eui' : Eui) (i j : ℕ) (rand_s rand_s' rand_p rand_p' : RandomOctets) (g h : Granted) → IsGranted g → IsGranted h
    → granting_tag eui i rand_s rand_p (granting_text g) ≡ granting_tag eui' j rand_s' rand_p' (granting_text h)
    → (eui ≡ eui') × (rand_s ≡ rand_s') × (rand_p ≡ rand_p') × (g ≡ h)

-- The tag of a channel that says success names the node and both random values: where a server opened the tag that a peer made,
-- both speak of one session.
abbrev pub SuccessTagsAgree : Type 0
SuccessTagsAgree =
    (eui eui' : Eui) (i j : ℕ) (rand_s rand_s' rand_p rand_p' : RandomOctets)
    → success_tag eui i rand_s rand_p ≡ success_tag eui' j rand_s' rand_p'
    → (eui ≡ eui') × (rand_s ≡ rand_s') × (rand_p ≡ rand_p')

-- # Octets: of names, random values and keys that are octets the packets of a session are octets

abbrev pub FirstPacketsAreOctets : Type 0
FirstPacketsAreOctets =
    (identifier : ℕ) (rand_s id_s : List ℕ) → identifier < 256 → AreOctets rand_s → AreOctets id_s
    → AreOctets (head 1 identifier 30 0 rand_s ++ id_s)

abbrev pub SecondPacketsAreOctets : Type 0
SecondPacketsAreOctets =
    (psk : List ℕ) (identifier : ℕ) (peer : Peer) → AreOctets psk → identifier < 256 → AreOctets peer.eui.0
    → AreOctets peer.rand_s.0 → AreOctets peer.rand_p.0 → AreOctets (second_packet (keys_of psk) identifier peer)

abbrev pub ThirdPacketsAreOctets : Type 0
ThirdPacketsAreOctets =
    (psk : List ℕ) (identifier : ℕ) (peer : Peer) (grant : Granted) → AreOctets psk → identifier < 256
    → AreOctets peer.rand_s.0 → GrantHasOctets grant → AreOctets (third_packet (keys_of psk) identifier peer grant)

abbrev pub FourthPacketsAreOctets : Type 0
FourthPacketsAreOctets =
    (psk : List ℕ) (identifier : ℕ) (peer : Peer) → AreOctets psk → identifier < 256 → AreOctets peer.rand_s.0
    → AreOctets (fourth_packet (keys_of psk) identifier peer)

-- # Sizes: of random values of at most 16 octets and names of 8 a packet has at most this many octets

abbrev pub FirstPacketsFit : Type 0
FirstPacketsFit =
    (identifier : ℕ) (rand_s id_s : List ℕ) → length rand_s ≤ 16 → length id_s ≡ 8
    → length (head 1 identifier 30 0 rand_s ++ id_s) ≤ 30

abbrev pub SecondPacketsFit : Type 0
SecondPacketsFit =
    (keys : PairKeys) (identifier : ℕ) (peer : Peer) → length peer.rand_s.0 ≤ 16 → length peer.rand_p.0 ≤ 16
    → length peer.eui.0 ≡ 8 → length (second_packet keys identifier peer) ≤ 62

-- with one key or two
abbrev pub ThirdPacketsFit : Type 0
ThirdPacketsFit =
    (keys : PairKeys) (identifier : ℕ) (peer : Peer) (grant : Granted) → length peer.rand_s.0 ≤ 16
    → IsPlace grant.key0 → IsPlace grant.key1 → length (third_packet keys identifier peer grant) ≤ 105

abbrev pub FourthPacketsFit : Type 0
FourthPacketsFit =
    (keys : PairKeys) (identifier : ℕ) (peer : Peer) → length peer.rand_s.0 ≤ 16
    → length (fourth_packet keys identifier peer) ≤ 43
