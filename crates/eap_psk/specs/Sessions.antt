-- The packets of a session as functions of its values, and what each end takes of a packet.
use Rattle.std.specs.Prelude.{ℕ, List, ◌++◌, length, Option, Some}
use Rattle.plc_base.specs.Fields.{after, octet, part}
use Rattle.plc_base.specs.Grant.{Granted}
use Rattle.plc_base.specs.declared.address.Eui.{Eui}
use Rattle.plc_base.specs.declared.key.RandomOctets.{RandomOctets}
use Rattle.joining_messages.specs.Reader.{grant_in}
use Rattle.eap_psk.specs.Keys.{PairKeys, mac_p, mac_s, transient_key, channel, channel_text}
use Rattle.eap_psk.specs.Messages.{head, third_head, fourth_head, granting_text, success_text}
use Rattle.eap_psk.specs.Faults.{rand_s_of, rand_p_of}
use Rattle.eap_psk.specs.declared.server.Server.{Server}
use Rattle.eap_psk.specs.declared.server.Agreed.{Agreed}
use Rattle.eap_psk.specs.declared.peer.Peer.{Peer}

-- # What is taken of a packet

-- the identifier of a packet
abbrev pub identifier_of : List ℕ → ℕ
identifier_of packet = octet 1 packet

-- the peer that answers a first packet
abbrev pub peer_for : Eui → RandomOctets → List ℕ → Peer
peer_for eui rand_p packet =
    record {
      eui = eui;
      id_s = record { 0 = part 22 8 packet };
      rand_s = record { 0 = rand_s_of packet };
      rand_p = rand_p;
    }

-- the RAND_P that a second packet names
abbrev pub rand_p_in : List ℕ → RandomOctets
rand_p_in packet = record { 0 = rand_p_of packet }

-- the server that took a second packet
abbrev pub server_after : Server → List ℕ → Server
server_after server packet = record server { rand_p = Some (rand_p_in packet) }

-- the peer of a server's session, with this RAND_P
abbrev pub peer_of : Server → RandomOctets → Peer
peer_of server rand_p = record { eui = server.eui; id_s = server.id_s; rand_s = server.rand_s; rand_p = rand_p }

-- TEK of a session
abbrev pub tek_of : PairKeys → RandomOctets → List ℕ
tek_of keys rand_p = transient_key keys.kdk rand_p.0

-- the grant in the channel of a third packet, after the flags and the type of the extension
abbrev pub granted_by : PairKeys → Peer → List ℕ → Option Granted
granted_by keys peer packet = grant_in (after 2 (channel_text (tek_of keys peer.rand_p) 0 (after 58 packet)))

-- the random values that both ends of a session hold
abbrev pub agreed_by : Peer → Agreed
agreed_by peer = record { rand_s = peer.rand_s; rand_p = peer.rand_p }

-- # The packets of a peer's session, by their identifiers

abbrev pub second_packet : PairKeys → ℕ → Peer → List ℕ
second_packet keys identifier peer =
    head 2 identifier 62 1 peer.rand_s.0
    ++ (peer.rand_p.0 ++ (mac_p keys.ak peer.eui.0 peer.id_s.0 peer.rand_s.0 peer.rand_p.0 ++ peer.eui.0))

abbrev pub third_packet : PairKeys → ℕ → Peer → Granted → List ℕ
third_packet keys identifier peer grant =
    let text = granting_text grant in
    let front = third_head identifier peer.rand_s.0 (length text) in
    front ++ (mac_s keys.ak peer.id_s.0 peer.rand_p.0 ++ channel (tek_of keys peer.rand_p) 0 front text)

abbrev pub fourth_packet : PairKeys → ℕ → Peer → List ℕ
fourth_packet keys identifier peer =
    let front = fourth_head identifier peer.rand_s.0 in
    front ++ channel (tek_of keys peer.rand_p) 1 front success_text
