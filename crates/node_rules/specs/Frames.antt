-- Frames as values, and the two words at the edge: what a frame spells, and what arrived octets are.
use Rattle.std.specs.Prelude.{ℕ, true, List, take, is_some, Option, Some, None, if◌then◌else◌}
use Rattle.plc_base.specs.declared.address.TheConstants.{PAN}
use Rattle.plc_base.specs.declared.address.Eui.{Eui}
use Rattle.plc_base.specs.declared.key.Key.{Key}
use Rattle.plc_base.specs.declared.out_frame.OutFrame.{OutFrame}
use Rattle.mac_frames.specs.declared.head.MacHead.{MacHead}
use Rattle.mac_frames.specs.declared.head.MacHead.TheVariants as heads
use Rattle.mac_frames.specs.Grammar.{header_then}
pub use Rattle.mac_frames.specs.Sent.{to_all}
use Rattle.mac_frames.specs.Sent.{sent_head}
use Rattle.mac_frames.specs.Faults.{frame_fault}
use Rattle.mac_frames.specs.Reader.{head_in, body_in}
use Rattle.mesh_header.specs.declared.unit.Unit.{Unit}
use Rattle.mesh_header.specs.declared.unit.Unit.TheVariants.{Local}
use Rattle.mesh_header.specs.Grammar.{spelling}
use Rattle.joining_messages.specs.declared.message.JoinMessage.{JoinMessage}
use Rattle.joining_messages.specs.Messages as joining
use Rattle.node_rules.specs.Ciphers.{Ciphers}

-- # What a node sends

-- A unit that is sealed: to whom, from which address, with which counter and under which key.
pub record SealedUnit : Type 0 where
  pub to : ℕ
  pub from : ℕ
  pub counter : ℕ
  pub index : ℕ
  pub key : Key
  pub unit : Unit
  -- the caller's number of the datagram that it carries, 0 for commands; it is never sent
  pub note : ℕ

-- A frame: sealed, or plain with a joining message, up to an agent from the node of an EUI or down to the message's node.
pub data Sent : Type 0 where
  Sealed : (sealed_unit : SealedUnit) → Sent
  Up : (agent : ℕ) → (from : Eui) → (message : JoinMessage) → Sent
  Down : (from : ℕ) → (message : JoinMessage) → Sent

-- # What a frame spells

-- the head of a sealed frame
abbrev pub head_of : SealedUnit → MacHead
head_of l = sent_head l.to l.from l.counter l.index

-- the unit of a joining message on a plain frame
abbrev pub joining_unit : JoinMessage → Unit
joining_unit message = Local 2 (joining.spelling message)

-- the octets of a sealed frame, which its sender knows the key and the note of
abbrev pub sealed_frame : Ciphers → SealedUnit → MacHead → OutFrame
sealed_frame ciphers l head =
    record { octets = header_then head (ciphers.seals l.key head (spelling l.unit)); note = l.note; key = Some l.key }

-- the octets of a plain frame, which has no key and no note
abbrev pub plain_frame : MacHead → JoinMessage → OutFrame
plain_frame head message = record { octets = header_then head (spelling (joining_unit message)); note = 0; key = None }

-- the octets of a frame, with what its sender knows of it: nodes write version 1, and sequence 0 on plain frames
unfoldable pub spelled : Ciphers → Sent → OutFrame
spelled ciphers (Sealed l) = sealed_frame ciphers l (head_of l)
spelled ciphers (Up agent from message) = plain_frame (heads.Up true 1 0 PAN agent from) message
spelled ciphers (Down from message) = plain_frame (heads.Down true 1 0 PAN message.eui from) message

-- # What arrived

-- A frame that came: its head, its body, and what the body is under a key, where that key made its tag.
pub record Arrived : Type 0 where
  pub head : MacHead
  pub body : List ℕ
  pub opened : Key → Option (List ℕ)

-- a frame in octets: its head, the octets after it, and what each key opens of them
abbrev pub arrived_with : Ciphers → MacHead → List ℕ → List ℕ → Arrived
arrived_with ciphers head front body =
    record { head = head; body = body; opened = λ key. ciphers.opens key head front body }

-- the frame that octets are, if they are one
unfoldable pub arrived : Ciphers → List ℕ → Option Arrived
arrived ciphers octets =
    if is_some (frame_fault octets) then None
    else Some (arrived_with ciphers (head_in octets) (take 15 octets) (body_in octets))
