-- Which fault of a packet is the first, at each end. All tests are of octets.
use Rattle.std.specs.Prelude.{ℕ, ◌*◌, Bool, List, length, Option, Some, nat_lt, ◌==◌, ◌&&◌}
use Rattle.std.specs.Str.{bytes_eq}
use Rattle.plc_base.specs.Fields.{after, octet, two, four, part}
use Rattle.plc_base.specs.Faults.{◌then◌, ◌unless◌}
use Rattle.joining_messages.specs.Grants.{is_parameter_list}
use Rattle.eap_psk.specs.Keys.{PairKeys, mac_p, mac_s, transient_key, channel_text, channel_tag}
use Rattle.eap_psk.specs.declared.fault.EapFault.{EapFault}
use Rattle.eap_psk.specs.declared.fault.EapFault.TheVariants.{Form, OtherSession, BadMac, BadChannel, NoSuccess}
use Rattle.eap_psk.specs.declared.server.Server.{Server}
use Rattle.eap_psk.specs.declared.peer.Peer.{Peer}

-- the same octets
unfoldable pub same : List ℕ → List ℕ → Bool
same a b = bytes_eq a b

-- The parts of the messages, by their places.

abbrev pub rand_s_of : List ℕ → List ℕ
rand_s_of packet = part 6 16 packet

abbrev pub rand_p_of : List ℕ → List ℕ
rand_p_of packet = part 22 16 packet

-- code, length, type and message number
unfoldable pub head_stands : ℕ → ℕ → List ℕ → Bool
head_stands code number packet =
    octet 0 packet == code && (two 2 packet == length packet
    && (octet 4 packet == 0x2F && octet 5 packet == 64 * number))

-- the form of each message, as it is awaited
unfoldable pub is_first : List ℕ → Bool
is_first packet = length packet == 30 && head_stands 1 0 packet

unfoldable pub is_second : List ℕ → Bool
is_second packet = length packet == 62 && (head_stands 2 1 packet && octet 1 packet == 1)

unfoldable pub is_third : List ℕ → Bool
is_third packet =
    nat_lt 57 (length packet) && (nat_lt (length packet) 129 && (head_stands 1 2 packet && four 38 packet == 0))

unfoldable pub is_fourth : List ℕ → Bool
is_fourth packet = length packet == 43 && (head_stands 2 3 packet && (octet 1 packet == 2 && four 22 packet == 1))

-- a channel's text that grants: success, an extension follows; the extension's type; a parameter list
unfoldable pub is_granting : List ℕ → Bool
is_granting text =
    nat_lt 1 (length text) && (octet 0 text == 0xA0 && (octet 1 text == 2 && is_parameter_list (after 2 text)))

-- the peer, of the first message
abbrev pub first_fault : List ℕ → Option EapFault
first_fault packet = Some Form unless is_first packet

-- the server, of the second
abbrev pub second_fault : PairKeys → Server → List ℕ → Option EapFault
second_fault keys server packet =
    Some Form unless is_second packet
    then Some OtherSession unless same (rand_s_of packet) server.rand_s.0
    then Some OtherSession unless same (part 54 8 packet) server.eui.0
    then Some BadMac unless same (part 38 16 packet) (mac_p keys.ak server.eui.0 server.id_s.0 server.rand_s.0
    (rand_p_of packet))

-- the peer, of the third
abbrev pub third_fault : PairKeys → Peer → List ℕ → Option EapFault
third_fault keys peer packet =
    let tek = transient_key keys.kdk peer.rand_p.0 in
    Some Form unless is_third packet
    then Some OtherSession unless same (rand_s_of packet) peer.rand_s.0
    then Some BadMac unless same (part 22 16 packet) (mac_s keys.ak peer.id_s.0 peer.rand_p.0)
    then Some BadChannel unless same (part 42 16 packet) (channel_tag tek 0 (part 0 22 packet) (after 58 packet))
    then Some NoSuccess unless is_granting (channel_text tek 0 (after 58 packet))

-- the server, of the fourth, where RAND_P is this
abbrev pub fourth_fault : PairKeys → Server → List ℕ → List ℕ → Option EapFault
fourth_fault keys server rand_p packet =
    let tek = transient_key keys.kdk rand_p in
    Some Form unless is_fourth packet
    then Some OtherSession unless same (rand_s_of packet) server.rand_s.0
    then Some BadChannel unless same (part 26 16 packet) (channel_tag tek 1 (part 0 22 packet) (after 42 packet))
    then Some NoSuccess unless octet 0 (channel_text tek 1 (after 42 packet)) == 0x80
