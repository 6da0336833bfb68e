-- What is read and what is spelled is the same, in both directions; a unit that goes on is no longer; units of octets.
use Rattle.std.specs.Prelude.{◌≡◌, ◌≤◌, ◌<◌, ℕ, List, Some}
use Rattle.plc_base.specs.Fields.{AreOctets}
use Rattle.mesh_header.specs.declared.unit.Mesh.{Mesh}
use Rattle.mesh_header.specs.declared.unit.Unit.{Unit}
use Rattle.mesh_header.specs.declared.unit.Unit.TheVariants.{Whole, Part, Carried, Local}
use Rattle.mesh_header.specs.Grammar.{Spells, spelling, header_length, hop_less}
use Rattle.mesh_header.specs.Reader.{unit_in}

-- the unit that octets spell is read out of them
abbrev pub UnitsAreRead : Type 0
UnitsAreRead = (u : Unit) (octets : List ℕ) → Spells u octets → unit_in octets ≡ Some u

-- the unit that is read out of octets is the one that they spell
abbrev pub ReadUnitsAreSpelled : Type 0
ReadUnitsAreSpelled = (u : Unit) (octets : List ℕ) → AreOctets octets → unit_in octets ≡ Some u → Spells u octets

-- a header with one hop less is no longer
abbrev pub OneHopLessIsNoLonger : Type 0
OneHopLessIsNoLonger = (mesh : Mesh) → header_length (hop_less mesh).hops ≤ header_length mesh.hops

-- # Octets

-- what a unit carries is octets, and its fields of one octet fit there
abbrev pub HasOctets : Unit → Type 0
HasOctets (Whole mesh octets) = (mesh.hops < 256) × AreOctets octets
HasOctets (Part mesh piece) = (mesh.hops < 256) × (piece.offset < 256) × AreOctets piece.octets
HasOctets (Carried mesh body) = (mesh.hops < 256) × AreOctets body
HasOctets (Local code body) = (code < 256) × AreOctets body

-- the spelling of a unit is octets
abbrev pub SpellsOctets : Unit → Type 0
SpellsOctets u = AreOctets (spelling u)

-- a unit of octets spells octets
abbrev pub UnitSpellingsAreOctets : Type 0
UnitSpellingsAreOctets = (u : Unit) → HasOctets u → SpellsOctets u

-- a unit that is read out of octets is one of octets
abbrev pub ReadUnitsHaveOctets : Type 0
ReadUnitsHaveOctets = (u : Unit) (octets : List ℕ) → AreOctets octets → unit_in octets ≡ Some u → HasOctets u
