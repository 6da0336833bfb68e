-- What units are, and the one spelling of each.
use Rattle.std.specs.Prelude.{◌≡◌, ◌<◌, ◌≤◌, ◌^◌, ℕ, ◌+◌, ◌-◌, List, ◌∷◌, ◌++◌, length, nat_lt, ◌==◌, if◌then◌else◌, ⊤}
use Rattle.byteorder.specs.Endian.{big_bytes}
use Rattle.plc_base.specs.Addresses.{IsAddress}
use Rattle.mesh_header.specs.declared.unit.Mesh.{Mesh}
use Rattle.mesh_header.specs.Pieces.{Placed, IsPiece}
use Rattle.mesh_header.specs.declared.unit.Unit.{Unit}
use Rattle.mesh_header.specs.declared.unit.Unit.TheVariants.{Whole, Part, Carried, Local}

-- a mesh header (RFC 4944, 5.2)
pub record IsMesh (mesh : Mesh) : Type 0 where
  pub hops : mesh.hops < 2 ^ 8
  pub origin : IsAddress mesh.origin
  pub to : IsAddress mesh.to

-- the units, by kind
abbrev pub IsUnit : Unit → Type 0
IsUnit (Whole mesh octets) = IsMesh mesh × (0 < length octets) × (length octets ≤ 375)
IsUnit (Part mesh piece) = IsMesh mesh × IsPiece piece
IsUnit (Carried mesh body) = IsMesh mesh
IsUnit (Local code body) = (0 < code) × (code ≤ 5)

-- what the types of a unit's parts leave open
abbrev pub IsAllowed : Unit → Type 0
IsAllowed (Whole mesh octets) = (0 < length octets) × (length octets ≤ 375)
IsAllowed (Part mesh piece) = ⊤
IsAllowed (Carried mesh body) = ⊤
IsAllowed (Local code body) = (0 < code) × (code ≤ 5)

-- Each part of a header is spelled before what follows it.

-- 0 to 14 hops stand in the first octet, 15 and more in an octet of their own
unfoldable pub hops_then : ℕ → List ℕ → List ℕ
hops_then hops rest = if nat_lt hops 15 then (0xB0 + hops) ∷ rest else 0xBF ∷ hops ∷ rest

abbrev pub mesh_then : Mesh → List ℕ → List ℕ
mesh_then mesh rest = hops_then mesh.hops (big_bytes 2 mesh.origin ++ (big_bytes 2 mesh.to ++ rest))

-- a first piece, which is at offset 0, or a later one (RFC 4944, 5.3)
unfoldable pub piece_spelling : Placed → List ℕ
piece_spelling piece =
    if piece.offset == 0 then big_bytes 2 (0xC000 + piece.size) ++ (big_bytes 2 piece.tag ++ (0x41 ∷ piece.octets))
    else big_bytes 2 (0xE000 + piece.size) ++ (big_bytes 2 piece.tag ++ (piece.offset ∷ piece.octets))

abbrev pub spelling : Unit → List ℕ
spelling (Whole mesh octets) = mesh_then mesh (0x41 ∷ octets)
spelling (Part mesh piece) = mesh_then mesh (piece_spelling piece)
spelling (Carried mesh body) = mesh_then mesh (0x40 ∷ 2 ∷ body)
spelling (Local code body) = 0x40 ∷ code ∷ body

-- how many octets a mesh header has
abbrev pub header_length : ℕ → ℕ
header_length hops = if nat_lt hops 15 then 5 else 6

-- a mesh header with one hop less
abbrev pub hop_less : Mesh → Mesh
hop_less mesh = record mesh { hops = mesh.hops - 1 }

-- how many octets the spelling has
abbrev pub spelled_length : Unit → ℕ
spelled_length (Whole mesh octets) = header_length mesh.hops + (1 + length octets)
spelled_length (Part mesh piece) = header_length mesh.hops + (5 + length piece.octets)
spelled_length (Carried mesh body) = header_length mesh.hops + (2 + length body)
spelled_length (Local code body) = 2 + length body

-- the octets are the unit's, all of them
abbrev pub Spells : Unit → List ℕ → Type 0
Spells unit octets = IsUnit unit × (octets ≡ spelling unit)
