-- What the calls for C answer, in the order of their reasons.
use Rattle.std.specs.Prelude.{ℕ, ◌+◌, Bool, List, length, take, Option, Some, None, is_some, nat_lt, not, ◌==◌, ◌&&◌}
use Rattle.plc_base.specs.Faults.{◌then◌, ◌when◌, ◌unless◌}
use Rattle.plc_base.specs.declared.fields.Fault.{Fault}
use Rattle.mac_frames.specs.declared.fault.FrameFaultKind.{FrameFaultKind}
use Rattle.mac_frames.specs.Faults.{frame_fault, is_sealed}
use Rattle.mac_frames.specs.Reader.{body_in, head_in}
use Rattle.mac_frames.specs.SealedFrames.{opened_in}
use Rattle.frames_c.specs.declared.head.FramesHead.{FramesHead}
use Rattle.frames_c.specs.declared.refusal.Refusal.{Refusal}
use Rattle.frames_c.specs.declared.refusal.Refusal.TheVariants.{Key, Head, Payload, Room, NotSealed, Tag}
use Rattle.frames_c.specs.Heads.{is_sealed_head}
use Rattle.frames_c.specs.Refusals.{fault_number, refusal_number}

-- the number of a refusal, 0 for none
abbrev pub status_of : Option Refusal → ℕ
status_of None = 0
status_of (Some refusal) = refusal_number refusal

-- why a payload is not sealed into a buffer of this room
unfoldable pub seal_refusal : List ℕ → FramesHead → List ℕ → ℕ → Option Refusal
seal_refusal key head payload room =
    Some Key unless length key == 16 then Some Head unless is_sealed_head head then Some Payload when nat_lt 381 (length payload)
    then Some Room when nat_lt room (length payload + 19)

-- whether octets are a sealed frame
unfoldable pub is_sealed_frame : List ℕ → Bool
is_sealed_frame frame = not (is_some (frame_fault frame)) && is_sealed frame

-- the payload of a sealed frame under a key, where its tag is right
abbrev pub opening : List ℕ → List ℕ → Option (List ℕ)
opening key frame = opened_in key (head_in frame) (take 15 frame) (body_in frame)

-- why a frame is not opened into a buffer of this room
unfoldable pub open_refusal : List ℕ → List ℕ → ℕ → Option Refusal
open_refusal key frame room =
    Some Key unless length key == 16 then Some NotSealed unless is_sealed_frame frame then Some Room when nat_lt (room + 19) (length frame)
    then Some Tag unless is_some (opening key frame)

-- the number of what is wrong with the octets of a frame, and its place; 0 and 0 where nothing is
abbrev pub read_status : Option (Fault FrameFaultKind) → ℕ
read_status None = 0
read_status (Some fault) = fault_number fault.kind

abbrev pub read_place : Option (Fault FrameFaultKind) → ℕ
read_place None = 0
read_place (Some fault) = fault.place
