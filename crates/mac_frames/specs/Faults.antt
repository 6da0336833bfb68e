-- The first fault of octets that are no MAC frame.
use Rattle.std.specs.Prelude.{ℕ, ◌+◌, ◌/◌, ◌%◌, ◌^◌, Bool, not, List, length, Option, nat_lt, ◌==◌, ◌&&◌, ◌||◌, if◌then◌else◌}
use Rattle.plc_base.specs.Fields.{octet, little_two}
use Rattle.plc_base.specs.Addresses.{is_address}
use Rattle.plc_base.specs.Faults.{◌then◌, ◌when◌, ◌unless◌, fault_at, cut_off}
use Rattle.plc_base.specs.declared.fields.Fault.{Fault}
use Rattle.mac_frames.specs.declared.fault.FrameFaultKind.{FrameFaultKind}
use Rattle.mac_frames.specs.declared.fault.FrameFaultKind.TheVariants.{Short, Kind, Mode, Level, Long, Address}

-- the number in some bits of an octet
abbrev pub bits : ℕ → ℕ → ℕ → ℕ
bits first count x = x / 2 ^ first % 2 ^ count

-- the first octet of the frame control: the type, the bits 4 and 7, the PAN id compression
abbrev pub type_fault : ℕ → Option (Fault FrameFaultKind)
type_fault x =
    fault_at Kind 0 when (not (bits 0 3 x == 1) || bits 4 1 x == 1 || bits 7 1 x == 1)
    then fault_at Mode 0 when bits 6 1 x == 0

unfoldable pub low_fault : List ℕ → Option (Fault FrameFaultKind)
low_fault octets = cut_off Short 1 octets then type_fault (octet 0 octets)

-- whether the frame is sealed
abbrev pub is_sealed : List ℕ → Bool
is_sealed octets = bits 3 1 (octet 0 octets) == 1

-- whether the second octet of a frame control has these modes: of the target, of the sender
abbrev pub has_modes : ℕ → ℕ → ℕ → Bool
has_modes target sender x = bits 2 2 x == target && bits 6 2 x == sender

-- the second octet: the bits 8 and 9, the version, the modes
abbrev pub version_fault : Bool → ℕ → Option (Fault FrameFaultKind)
version_fault sealed x =
    fault_at Kind 1 when (nat_lt 0 (bits 0 2 x) || nat_lt 1 (bits 4 2 x) || (sealed && bits 4 2 x == 0))
    then fault_at Mode 1 when (if sealed then not (has_modes 2 2 x) else not (has_modes 2 3 x || has_modes 3 2 x))

unfoldable pub high_fault : List ℕ → Option (Fault FrameFaultKind)
high_fault octets = cut_off Short 2 octets then version_fault (is_sealed octets) (octet 1 octets)

-- a short target
unfoldable pub target_fault : ℕ → List ℕ → Option (Fault FrameFaultKind)
target_fault at octets = cut_off Short (at + 2) octets then fault_at Address at when little_two at octets == 0xFFFE

-- a short sender
unfoldable pub sender_fault : ℕ → List ℕ → Option (Fault FrameFaultKind)
sender_fault at octets = cut_off Short (at + 2) octets then fault_at Address at unless is_address (little_two at octets)

-- the security control
unfoldable pub level_fault : ℕ → List ℕ → Option (Fault FrameFaultKind)
level_fault at octets = cut_off Short (at + 1) octets then fault_at Level at when not (octet at octets == 0x0D)

-- the key index
unfoldable pub index_fault : ℕ → List ℕ → Option (Fault FrameFaultKind)
index_fault at octets = cut_off Short (at + 1) octets then fault_at Level at when nat_lt 1 (octet at octets)

-- what follows the sequence and the PAN id, by kind of frame
unfoldable pub sealed_fault : List ℕ → Option (Fault FrameFaultKind)
sealed_fault octets =
    target_fault 5 octets then sender_fault 7 octets then level_fault 9 octets then cut_off Short 14 octets
    then index_fault 14 octets then cut_off Short 19 octets

unfoldable pub up_fault : List ℕ → Option (Fault FrameFaultKind)
up_fault octets = target_fault 5 octets then cut_off Short 15 octets

unfoldable pub down_fault : List ℕ → Option (Fault FrameFaultKind)
down_fault octets = cut_off Short 13 octets then sender_fault 13 octets

abbrev pub kind_fault : List ℕ → Option (Fault FrameFaultKind)
kind_fault octets =
    if is_sealed octets then sealed_fault octets
    else (if has_modes 2 3 (octet 1 octets) then up_fault octets else down_fault octets)

-- too long, or else the fields from the left
unfoldable pub fields_fault : List ℕ → Option (Fault FrameFaultKind)
fields_fault octets =
    low_fault octets then high_fault octets then cut_off Short 3 octets then cut_off Short 5 octets
    then kind_fault octets

abbrev pub frame_fault : List ℕ → Option (Fault FrameFaultKind)
frame_fault octets = fault_at Long 400 when nat_lt 400 (length octets) then fields_fault octets
