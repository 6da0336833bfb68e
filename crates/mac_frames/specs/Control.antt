-- What the code reads of the frame control, for the clauses of its private functions. No public clause
-- names what stands here.
use Rattle.std.specs.Prelude.{◌≡◌, ℕ, true, false, List}
use Rattle.plc_base.specs.Fields.{octet}
use Rattle.mac_frames.specs.Faults.{is_sealed, has_modes}
use Rattle.mac_frames.specs.declared.control.FrameKind.{FrameKind}
use Rattle.mac_frames.specs.declared.control.FrameKind.TheVariants.{Sealed, Up, Down}

-- the mode of the target
abbrev pub target_mode : FrameKind → ℕ
target_mode Sealed = 2
target_mode Up = 2
target_mode Down = 3

-- the mode of the sender
abbrev pub sender_mode : FrameKind → ℕ
sender_mode Sealed = 2
sender_mode Up = 3
sender_mode Down = 2

-- the frame control is that of this kind
abbrev pub IsOfKind : FrameKind → ℕ → List ℕ → Type 0
IsOfKind Sealed version octets = (is_sealed octets ≡ true) × (version ≡ 1)
IsOfKind Up version octets = (is_sealed octets ≡ false) × (has_modes 2 3 (octet 1 octets) ≡ true)
IsOfKind Down version octets = (is_sealed octets ≡ false) × (has_modes 2 3 (octet 1 octets) ≡ false)
