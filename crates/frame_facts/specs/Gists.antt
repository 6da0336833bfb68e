-- Whom a frame is for, and what its payload is about.
use Rattle.std.specs.Prelude.{ℕ, ◌==◌, List, Option, None, Some, if◌then◌else◌}
use Rattle.plc_base.specs.declared.fields.Fault.{Fault}
use Rattle.mac_frames.specs.declared.head.MacHead.{MacHead}
use Rattle.mac_frames.specs.declared.head.MacHead.TheVariants.{Sealed, Up, Down}
use Rattle.mac_frames.specs.declared.fault.FrameFaultKind.{FrameFaultKind}
use Rattle.mac_frames.specs.Faults.{frame_fault}
use Rattle.mac_frames.specs.Reader.{head_in}
use Rattle.mesh_header.specs.declared.unit.Unit.{Unit}
use Rattle.mesh_header.specs.declared.unit.Unit.TheVariants.{Whole, Part, Carried, Local}
use Rattle.mesh_header.specs.Reader.{unit_in}
use Rattle.loadng_messages.specs.declared.message.Message.{Message}
use Rattle.loadng_messages.specs.declared.message.Message.TheVariants.{Rreq, Rrep, Rerr}
use Rattle.loadng_messages.specs.Reader.{message_in}
use Rattle.joining_messages.specs.declared.message.JoinMessage.{JoinMessage}
use Rattle.joining_messages.specs.Reader.{join_in}
use Rattle.frame_facts.specs.declared.gist.FrameTarget.{FrameTarget}
use Rattle.frame_facts.specs.declared.gist.FrameTarget.TheVariants.{Nobody, All, Node, Device}
use Rattle.frame_facts.specs.declared.gist.Gist.{Gist}
use Rattle.frame_facts.specs.declared.gist.Gist.TheVariants.{Unread, Bears, Seeks, Replies, Ends, Joins, Reaches}

-- # Targets

abbrev pub short_target : ℕ → FrameTarget
short_target to = if to == 0xFFFF then All else Node to

abbrev pub head_target : MacHead → FrameTarget
head_target (Sealed ack seq pan to from counter index) = short_target to
head_target (Up ack version seq pan to from) = short_target to
head_target (Down ack version seq pan to from) = Device to

-- by the fault of the octets, if they have one
abbrev pub target_unless : Option (Fault FrameFaultKind) → List ℕ → FrameTarget
target_unless None octets = head_target (head_in octets)
target_unless (Some fault) octets = Nobody

abbrev pub frame_target : List ℕ → FrameTarget
frame_target octets = target_unless (frame_fault octets) octets

-- # Gists

-- the gist of what was read
abbrev pub gist_or_unread : {A : Type 0} → (A → Gist) → Option A → Gist
gist_or_unread gist None = Unread
gist_or_unread gist (Some x) = gist x

abbrev pub message_gist : Message → Gist
message_gist (Rreq number cost origin dest) = Seeks origin dest cost
message_gist (Rrep number cost origin to) = Replies origin to
message_gist (Rerr lost to) = Ends lost to

abbrev pub route_gist : List ℕ → Gist
route_gist body = gist_or_unread message_gist (message_in body)

abbrev pub joining_gist : List ℕ → Gist
joining_gist body = gist_or_unread (λ (message : JoinMessage). Joins message.eui) (join_in body)

-- the gist of a command, by its code
abbrev pub command_gist : ℕ → List ℕ → Gist
command_gist code body =
    if code == 1 then route_gist body
    else (if code == 2 then joining_gist body else Reaches)

abbrev pub unit_gist : Unit → Gist
unit_gist (Whole mesh octets) = Bears mesh.hops
unit_gist (Part mesh piece) = Bears mesh.hops
unit_gist (Carried mesh body) = joining_gist body
unit_gist (Local code body) = command_gist code body

abbrev pub payload_gist : List ℕ → Gist
payload_gist payload = gist_or_unread unit_gist (unit_in payload)
