-- Which payload a frame has: a plain one its body, a sealed one what a key opens, or what it is decrypted to under the key that it is known to be
-- sealed with.
use Rattle.std.specs.Prelude.{ℕ, Bool, true, false, nat_le, List, length, take, Option, None, Some, if◌then◌else◌}
use Rattle.plc_base.specs.declared.fields.Fault.{Fault}
use Rattle.plc_base.specs.declared.key.Key.{Key}
use Rattle.mac_frames.specs.declared.head.MacHead.{MacHead}
use Rattle.mac_frames.specs.declared.head.MacHead.TheVariants.{Sealed, Up, Down}
use Rattle.mac_frames.specs.declared.fault.FrameFaultKind.{FrameFaultKind}
use Rattle.mac_frames.specs.Faults.{frame_fault}
use Rattle.mac_frames.specs.Reader.{head_in, body_in}
use Rattle.mac_frames.specs.SealedFrames.{opened_in, payload_in}

-- what a buffer holds, where that is a payload
abbrev pub held : Bool → List ℕ → Option (List ℕ)
held true octets = Some octets
held false octets = None

-- a body that is not sealed; none is longer than a frame
abbrev pub bare : List ℕ → Option (List ℕ)
bare body = if nat_le (length body) 400 then Some body else None

-- a sealed body under a key, by the head and the octets of the header
abbrev pub opened_with : Option Key → MacHead → List ℕ → List ℕ → Option (List ℕ)
opened_with None head front body = None
opened_with (Some key) head front body = opened_in key.0 head front body

abbrev pub payload_by : MacHead → Option Key → List ℕ → List ℕ → Option (List ℕ)
payload_by (Sealed ack seq pan to from counter index) key front body = opened_with key (Sealed ack seq pan to from counter index) front body
payload_by (Up ack version seq pan to from) key front body = bare body
payload_by (Down ack version seq pan to from) key front body = bare body

-- by the fault of the octets, if they have one
abbrev pub payload_unless : Option (Fault FrameFaultKind) → List ℕ → Option Key → Option (List ℕ)
payload_unless None octets key = payload_by (head_in octets) key (take 15 octets) (body_in octets)
payload_unless (Some fault) octets key = None

-- the payload of a frame
abbrev pub payload_of : List ℕ → Option Key → Option (List ℕ)
payload_of octets key = payload_unless (frame_fault octets) octets key

-- # Frames that are known to be sealed under a key

-- a sealed body, decrypted whatever its tag
abbrev pub decrypted_with : Option Key → MacHead → List ℕ → Option (List ℕ)
decrypted_with None head body = None
decrypted_with (Some key) head body = Some (payload_in key.0 head body)

abbrev pub carried_by : MacHead → Option Key → List ℕ → Option (List ℕ)
carried_by (Sealed ack seq pan to from counter index) key body = decrypted_with key (Sealed ack seq pan to from counter index) body
carried_by (Up ack version seq pan to from) key body = bare body
carried_by (Down ack version seq pan to from) key body = bare body

abbrev pub carried_unless : Option (Fault FrameFaultKind) → List ℕ → Option Key → Option (List ℕ)
carried_unless None octets key = carried_by (head_in octets) key (body_in octets)
carried_unless (Some fault) octets key = None

-- what a frame carries
abbrev pub carried_of : List ℕ → Option Key → Option (List ℕ)
carried_of octets key = carried_unless (frame_fault octets) octets key
