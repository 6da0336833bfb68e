-- The kinds of payloads.
use Rattle.std.specs.Prelude.{ℕ, ◌/◌, ◌==◌, nat_lt, List, length, slice_index, codes, Option, None, Some, if◌then◌else◌}
use Rattle.mesh_header.specs.declared.unit.Unit.{Unit}
use Rattle.mesh_header.specs.declared.unit.Unit.TheVariants.{Whole, Part, Carried, Local}
use Rattle.mesh_header.specs.Reader.{unit_in}
use Rattle.loadng_messages.specs.declared.message.Message.{Message}
use Rattle.loadng_messages.specs.declared.message.Message.TheVariants.{Rreq, Rrep, Rerr}
use Rattle.loadng_messages.specs.Reader.{message_in}
use Rattle.joining_messages.specs.declared.message.JoinMessage.{JoinMessage}
use Rattle.joining_messages.specs.declared.message.JoinBody.{JoinBody}
use Rattle.joining_messages.specs.declared.message.JoinBody.TheVariants as J
use Rattle.joining_messages.specs.Reader.{join_in}
use Rattle.neighbour_checks.specs.Acks.{ack_in}
use Rattle.broadcast_log.specs.Reader.{broadcast_in}
use Rattle.path_requests.specs.declared.message.PathMessage.{PathMessage}
use Rattle.path_requests.specs.declared.message.PathMessage.TheVariants.{Ask, Tell}
use Rattle.path_requests.specs.Reader.{path_in}
use Rattle.frame_facts.specs.declared.kind.PayloadKind.{PayloadKind}
use Rattle.frame_facts.specs.declared.kind.PayloadKind.TheVariants as K

-- the word for a kind
abbrev pub kind_word : PayloadKind → List ℕ
kind_word K.Unknown = codes "?"
kind_word K.Datagram = codes "data"
kind_word K.Piece = codes "piece"
kind_word K.RouteRequest = codes "RREQ"
kind_word K.RouteReply = codes "RREP"
kind_word K.RouteError = codes "RERR"
kind_word K.Acknowledgement = codes "ack"
kind_word K.Broadcast = codes "bcast"
kind_word K.PathRequest = codes "path?"
kind_word K.PathAnswer = codes "path"
kind_word K.Join = codes "JOIN"
kind_word K.Accept = codes "ACCEPT"
kind_word K.Packet = codes "EAP"
kind_word K.FirstEap = codes "EAP 1"
kind_word K.SecondEap = codes "EAP 2"
kind_word K.ThirdEap = codes "EAP 3"
kind_word K.FourthEap = codes "EAP 4"
kind_word K.Decline = codes "DECLINE"
kind_word K.Kick = codes "KICK"
kind_word K.Activate = codes "ACTIVATE"

-- which message of EAP-PSK has these highest bits of the flags (RFC 4764, 5.1)
abbrev pub flagged_kind : ℕ → PayloadKind
flagged_kind t = if t == 0 then K.FirstEap else (if t == 1 then K.SecondEap else (if t == 2 then K.ThirdEap else K.FourthEap))

-- which message of EAP-PSK a packet is: type 47, in the fifth octet
abbrev pub eap_kind : List ℕ → PayloadKind
eap_kind packet =
    if nat_lt (length packet) 6 then K.Packet
    else (if slice_index packet 4 == 47 then flagged_kind (slice_index packet 5 / 64) else K.Packet)

-- the kind of what was read
abbrev pub kind_or_unknown : {A : Type 0} → (A → PayloadKind) → Option A → PayloadKind
kind_or_unknown kind None = K.Unknown
kind_or_unknown kind (Some x) = kind x

abbrev pub message_kind : Message → PayloadKind
message_kind (Rreq number cost origin dest) = K.RouteRequest
message_kind (Rrep number cost origin to) = K.RouteReply
message_kind (Rerr lost to) = K.RouteError

abbrev pub route_kind : List ℕ → PayloadKind
route_kind body = kind_or_unknown message_kind (message_in body)

-- a request without a packet is a bare one
abbrev pub bare_or_eap : List ℕ → PayloadKind
bare_or_eap packet = if length packet == 0 then K.Join else eap_kind packet

abbrev pub body_kind : JoinBody → PayloadKind
body_kind (J.Join eap) = bare_or_eap eap
body_kind (J.Accept identifier) = K.Accept
body_kind (J.Challenge eap) = eap_kind eap
body_kind J.Decline = K.Decline
body_kind J.Kick = K.Kick
body_kind (J.Activate index) = K.Activate

abbrev pub joining_kind : List ℕ → PayloadKind
joining_kind body = kind_or_unknown (λ (message : JoinMessage). body_kind message.body) (join_in body)

abbrev pub ack_kind : List ℕ → PayloadKind
ack_kind body = kind_or_unknown (λ ack. K.Acknowledgement) (ack_in body)

abbrev pub broadcast_kind : List ℕ → PayloadKind
broadcast_kind body = kind_or_unknown (λ broadcast. K.Broadcast) (broadcast_in body)

abbrev pub walk_kind : PathMessage → PayloadKind
walk_kind (Ask target walk) = K.PathRequest
walk_kind (Tell walk) = K.PathAnswer

abbrev pub path_kind : List ℕ → PayloadKind
path_kind body = kind_or_unknown walk_kind (path_in body)

-- the kind of a command, by its code
abbrev pub command_kind : ℕ → List ℕ → PayloadKind
command_kind code body =
    if code == 1 then route_kind body
    else (if code == 2 then joining_kind body
    else (if code == 3 then ack_kind body
    else (if code == 4 then broadcast_kind body
    else (if code == 5 then path_kind body else K.Unknown))))

abbrev pub unit_kind : Unit → PayloadKind
unit_kind (Whole mesh octets) = K.Datagram
unit_kind (Part mesh piece) = K.Piece
unit_kind (Carried mesh body) = joining_kind body
unit_kind (Local code body) = command_kind code body

abbrev pub payload_kind : List ℕ → PayloadKind
payload_kind payload = kind_or_unknown unit_kind (unit_in payload)
