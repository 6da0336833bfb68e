-- What a payload says beside its gist, and what is kept of a flight.
use Rattle.std.specs.Prelude.{ℕ, ◌+◌, ◌*◌, ◌==◌, true, false, List, length, Option, None, Some, if◌then◌else◌}
use Rattle.plc_base.specs.declared.fields.Fault.{Fault}
use Rattle.mac_frames.specs.declared.head.MacHead.{MacHead}
use Rattle.mac_frames.specs.declared.head.MacHead.TheVariants.{Sealed, Up, Down}
use Rattle.mac_frames.specs.declared.fault.FrameFaultKind.{FrameFaultKind}
use Rattle.mac_frames.specs.Faults.{frame_fault}
use Rattle.mac_frames.specs.Reader.{head_in}
use Rattle.mesh_header.specs.declared.unit.Unit.{Unit}
use Rattle.mesh_header.specs.declared.unit.Unit.TheVariants.{Whole, Part, Carried, Local}
use Rattle.mesh_header.specs.Pieces.{Placed}
use Rattle.mesh_header.specs.Reader.{unit_in}
use Rattle.loadng_messages.specs.declared.message.Message.{Message}
use Rattle.loadng_messages.specs.declared.message.Message.TheVariants.{Rreq, Rrep, Rerr}
use Rattle.loadng_messages.specs.Reader.{message_in}
use Rattle.joining_messages.specs.declared.message.JoinMessage.{JoinMessage}
use Rattle.joining_messages.specs.declared.message.JoinBody.{JoinBody}
use Rattle.joining_messages.specs.declared.message.JoinBody.TheVariants as J
use Rattle.joining_messages.specs.Reader.{join_in}
use Rattle.frame_facts.specs.declared.detail.Detail.{Detail}
use Rattle.frame_facts.specs.declared.detail.Detail.TheVariants as details
use Rattle.frame_facts.specs.declared.detail.FlightMore.{FlightMore}

-- # Payloads

-- what was read says, and nothing where nothing was read
abbrev pub detail_or_nothing : {A : Type 0} → (A → Detail) → Option A → Detail
detail_or_nothing detail None = details.Nothing
detail_or_nothing detail (Some x) = detail x

-- a request or a reply
abbrev pub message_detail : Message → Detail
message_detail (Rreq number cost origin dest) = details.Route number cost
message_detail (Rrep number cost origin to) = details.Route number cost
message_detail (Rerr lost to) = details.Nothing

abbrev pub route_detail : List ℕ → Detail
route_detail body = detail_or_nothing message_detail (message_in body)

-- which way a joining message goes
abbrev pub body_detail : JoinBody → Detail
body_detail (J.Join eap) = details.Up
body_detail (J.Accept identifier) = details.Down
body_detail (J.Challenge eap) = details.Down
body_detail J.Decline = details.Down
body_detail J.Kick = details.Down
body_detail (J.Activate index) = details.Activate index

abbrev pub joining_detail : List ℕ → Detail
joining_detail body = detail_or_nothing (λ (message : JoinMessage). body_detail message.body) (join_in body)

-- where a piece stands in its datagram
abbrev pub piece_detail : Placed → Detail
piece_detail piece = details.Piece (piece.offset * 8) (piece.offset * 8 + length piece.octets) piece.size

-- what a command says, by its code
abbrev pub command_detail : ℕ → List ℕ → Detail
command_detail code body =
    if code == 1 then route_detail body
    else (if code == 2 then joining_detail body else details.Nothing)

abbrev pub unit_detail : Unit → Detail
unit_detail (Whole mesh octets) = details.Nothing
unit_detail (Part mesh piece) = piece_detail piece
unit_detail (Carried mesh body) = joining_detail body
unit_detail (Local code body) = command_detail code body

-- of a payload, where it is known
abbrev pub payload_detail : Option (List ℕ) → Detail
payload_detail None = details.Nothing
payload_detail (Some payload) = detail_or_nothing unit_detail (unit_in payload)

-- # Flights

-- a frame that is not sealed, or octets that are none
abbrev pub plain_more : Detail → FlightMore
plain_more detail = record { sealed = false; from = 0; counter = 0; index = 0; detail = detail }

abbrev pub head_more : MacHead → Detail → FlightMore
head_more (Sealed ack seq pan to from counter index) detail =
    record { sealed = true; from = from; counter = counter; index = index; detail = detail }
head_more (Up ack version seq pan to from) detail = plain_more detail
head_more (Down ack version seq pan to from) detail = plain_more detail

-- by the fault of the octets, if they have one
abbrev pub more_unless : Option (Fault FrameFaultKind) → List ℕ → Detail → FlightMore
more_unless None octets detail = head_more (head_in octets) detail
more_unless (Some fault) octets detail = plain_more detail

-- what is kept of a frame, by its octets and its payload where that is known
abbrev pub more_of : List ℕ → Option (List ℕ) → FlightMore
more_of octets payload = more_unless (frame_fault octets) octets (payload_detail payload)
