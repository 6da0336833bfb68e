-- The head and the body that stand in the octets of a frame, as a function of the octets. `Frame` says which they are; here they
-- are read off, for definitions that go on from them.
use Rattle.std.specs.Prelude.{ℕ, Bool, true, false, List, reverse, ◌==◌}
use Rattle.plc_base.specs.Fields.{octet, little_two, little_four, part, after}
use Rattle.mac_frames.specs.declared.head.MacHead.{MacHead}
use Rattle.mac_frames.specs.declared.head.MacHead.TheVariants.{Sealed, Up, Down}
use Rattle.mac_frames.specs.Faults.{bits, is_sealed, has_modes}

-- whether the frame asks for an acknowledgement
abbrev pub ack_in : List ℕ → Bool
ack_in octets = bits 5 1 (octet 0 octets) == 1

abbrev pub version_in : List ℕ → ℕ
version_in octets = bits 4 2 (octet 1 octets)

-- by whether the frame is sealed, and whether its target is short
abbrev pub head_by : Bool → Bool → List ℕ → MacHead
head_by true short octets =
    Sealed (ack_in octets) (octet 2 octets) (little_two 3 octets) (little_two 5 octets) (little_two 7 octets)
    (little_four 10 octets) (octet 14 octets)
head_by false true octets =
    Up (ack_in octets) (version_in octets) (octet 2 octets) (little_two 3 octets) (little_two 5 octets)
    (record { 0 = reverse (part 7 8 octets) })
head_by false false octets =
    Down (ack_in octets) (version_in octets) (octet 2 octets) (little_two 3 octets)
    (record { 0 = reverse (part 5 8 octets) }) (little_two 13 octets)

unfoldable pub head_in : List ℕ → MacHead
head_in octets = head_by (is_sealed octets) (has_modes 2 3 (octet 1 octets)) octets

-- the octets after the header
unfoldable pub body_in : List ℕ → List ℕ
body_in octets = after 15 octets
