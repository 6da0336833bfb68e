-- The unit that stands in octets, as a function of the octets. `Spells` says which it is; here it is read off, for definitions
-- that go on from it.
use Rattle.std.specs.Prelude.{ℕ, ◌+◌, ◌-◌, List, Option, Some, None, is_some, nat_lt, ◌==◌, if◌then◌else◌}
use Rattle.plc_base.specs.Fields.{octet, two, after}
use Rattle.mesh_header.specs.declared.unit.Mesh.{Mesh}
use Rattle.mesh_header.specs.declared.unit.Unit.{Unit}
use Rattle.mesh_header.specs.declared.unit.Unit.TheVariants.{Whole, Part, Carried, Local}
use Rattle.mesh_header.specs.Pieces.{Placed}
use Rattle.mesh_header.specs.Faults.{origin_at, unit_fault}

-- the hops of a mesh header: in the first octet, or in one of their own
abbrev pub hops_in : List ℕ → ℕ
hops_in octets = if octet 0 octets == 0xBF then octet 1 octets else octet 0 octets - 0xB0

abbrev pub mesh_in : List ℕ → Mesh
mesh_in octets =
    record { hops = hops_in octets; origin = two (origin_at octets) octets; to = two (origin_at octets + 2) octets }

-- the first piece whose size stands at a place, and a later one
abbrev pub first_piece_at : ℕ → List ℕ → Placed
first_piece_at at octets =
    record { size = two at octets - 0xC000; tag = two (at + 2) octets; offset = 0; octets = after (at + 5) octets }

abbrev pub later_piece_at : ℕ → List ℕ → Placed
later_piece_at at octets =
    record {
      size = two at octets - 0xE000;
      tag = two (at + 2) octets;
      offset = octet (at + 4) octets;
      octets = after (at + 5) octets;
    }

-- what stands after a mesh header, by its first octet
abbrev pub part_in : ℕ → Mesh → ℕ → List ℕ → Unit
part_in dispatch mesh at octets =
    if dispatch == 0x41 then Whole mesh (after (at + 1) octets)
    else (if dispatch == 0x40 then Carried mesh (after (at + 2) octets)
    else (if nat_lt dispatch 0xC8 then Part mesh (first_piece_at at octets)
    else Part mesh (later_piece_at at octets)))

abbrev pub load_in : Mesh → ℕ → List ℕ → Unit
load_in mesh at octets = part_in (octet at octets) mesh at octets

-- the fields of a unit, where octets have no fault
abbrev pub fields_in : List ℕ → Unit
fields_in octets =
    if octet 0 octets == 0x40 then Local (octet 1 octets) (after 2 octets)
    else load_in (mesh_in octets) (origin_at octets + 4) octets

-- the unit that octets are, if they are one
unfoldable pub unit_in : List ℕ → Option Unit
unit_in octets = if is_some (unit_fault octets) then None else Some (fields_in octets)
