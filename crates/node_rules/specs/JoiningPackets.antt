-- What the two ends of a joining send and check, as functions (RFC 4764), and the messages that carry it.
use Rattle.std.specs.Prelude.{ℕ, ◌/◌, Bool, ◌==◌, ◌&&◌, nat_lt, List, ◌∷◌, ◌++◌, length, None}
use Rattle.plc_base.specs.Fields.{octet}
use Rattle.plc_base.specs.declared.address.Eui.{Eui}
use Rattle.plc_base.specs.declared.key.RandomOctets.{RandomOctets}
use Rattle.joining_messages.specs.declared.message.JoinMessage.{JoinMessage}
use Rattle.joining_messages.specs.declared.message.JoinBody.{JoinBody}
use Rattle.joining_messages.specs.Messages as messages
use Rattle.eap_psk.specs.Messages as packets
use Rattle.eap_psk.specs.declared.server.Server.{Server}
use Rattle.eap_psk.specs.declared.server.Agreed.{Agreed}

-- # The packets

-- what a server asks with first
abbrev pub first_packet : Server → List ℕ
first_packet server = packets.head 1 1 30 0 server.rand_s.0 ++ server.id_s.0

-- the server that begins with a meter
abbrev pub server_for : Eui → Eui → RandomOctets → Server
server_for eui id_s rand_s = record { eui = eui; id_s = id_s; rand_s = rand_s; rand_p = None }

-- whether a packet counts as a first one: the number of its message is 0
abbrev pub is_first : List ℕ → Bool
is_first packet = nat_lt 5 (length packet) && (octet 5 packet / 64 == 0)

-- the random values of the coordinator's end
abbrev pub server_agrees : Server → RandomOctets → Agreed
server_agrees server rand_p = record { rand_s = server.rand_s; rand_p = rand_p }

-- # The messages

-- a joining message about a meter
abbrev pub message : Eui → JoinBody → JoinMessage
message eui body = record { eui = eui; body = body }

-- the octets of the command that carries a message, its code first
abbrev pub command_of : JoinMessage → List ℕ
command_of m = 2 ∷ messages.spelling m
