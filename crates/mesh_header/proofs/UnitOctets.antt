-- A unit of octets spells octets, and a unit that is read of octets has octets.
use Rattle.std.proofs.Common.{◌≡◌, ℕ, ◌+◌, ◌<◌, Bool, true, false, List, ◌∷◌, ◌++◌, Some, None, refl, subst, arith}
use Rattle.std.specs.Prelude.{◌==◌, if◌then◌else◌, nat_lt, is_some}
use Rattle.std.proofs.lemmas.Bool.{ltb-true}
use Rattle.std.proofs.lemmas.Option.{same_Some}
use Rattle.byteorder.specs.Endian.{big_bytes}
use Rattle.plc_base.specs.Fields.{AreOctets, octet, after}
use Rattle.plc_base.proofs.OctetLists.{front, both, big_octets, after_octets}
use Rattle.mesh_header.specs.declared.unit.Mesh.{Mesh}
use Rattle.mesh_header.specs.declared.unit.Unit.{Unit as MeshUnit}
use Rattle.mesh_header.specs.declared.unit.Unit.TheVariants as units
use Rattle.mesh_header.specs.Pieces.{Placed}
use Rattle.mesh_header.specs.Grammar.{IsUnit, hops_then, mesh_then, piece_spelling}
use Rattle.mesh_header.specs.Faults.{origin_at, unit_fault}
use Rattle.mesh_header.specs.Reader.{unit_in, fields_in, load_in, mesh_in, first_piece_at, later_piece_at}
use Rattle.mesh_header.specs.Laws.{HasOctets, UnitSpellingsAreOctets, ReadUnitsHaveOctets}
use Rattle.mesh_header.proofs.Readings.{unit_spelled}

-- # What is spelled

hops_octets : (hops : ℕ) (rest : List ℕ) → hops < 256 → AreOctets rest → AreOctets (hops_then hops rest)
unfolding hops_then
hops_octets hops rest low all = by_size (nat_lt hops 15) refl
  where
    by_size : (b : Bool) → nat_lt hops 15 ≡ b → AreOctets (if b then (0xB0 + hops) ∷ rest else 0xBF ∷ hops ∷ rest)
    by_size true e = front (0xB0 + hops) rest (let few : hops < 15 = ltb-true _ _ e in omega arith) all
    by_size false e = front 0xBF (hops ∷ rest) (omega arith) (front hops rest low all)

mesh_octets : (mesh : Mesh) (rest : List ℕ) → mesh.hops < 256 → AreOctets rest → AreOctets (mesh_then mesh rest)
mesh_octets mesh rest low all =
    hops_octets mesh.hops (big_bytes 2 mesh.origin ++ (big_bytes 2 mesh.to ++ rest)) low
    (both (big_bytes 2 mesh.origin) (big_bytes 2 mesh.to ++ rest) (big_octets 2 mesh.origin) (both (big_bytes 2 mesh.to) rest (big_octets 2 mesh.to) all))

piece_octets : (p : Placed) → p.offset < 256 → AreOctets p.octets → AreOctets (piece_spelling p)
unfolding piece_spelling
piece_octets p low all = by_offset (p.offset == 0)
  where
    behind : (x base : ℕ) → x < 256 → AreOctets (big_bytes 2 (base + p.size) ++ (big_bytes 2 p.tag ++ (x ∷ p.octets)))
    behind x base small = both (big_bytes 2 (base + p.size)) (big_bytes 2 p.tag ++ (x ∷ p.octets)) (big_octets 2 (base + p.size))
        (both (big_bytes 2 p.tag) (x ∷ p.octets) (big_octets 2 p.tag) (front x p.octets small all))

    by_offset : (b : Bool) → AreOctets (if b then big_bytes 2 (0xC000 + p.size) ++ (big_bytes 2 p.tag ++ (0x41 ∷ p.octets))
        else big_bytes 2 (0xE000 + p.size) ++ (big_bytes 2 p.tag ++ (p.offset ∷ p.octets)))
    by_offset true = behind 0x41 0xC000 (omega arith)
    by_offset false = behind p.offset 0xE000 low

pub spelling_octets : UnitSpellingsAreOctets
spelling_octets (units.Whole mesh octets) h = mesh_octets mesh (0x41 ∷ octets) h.0 (front 0x41 octets (omega arith) h.1)
spelling_octets (units.Part mesh piece) h = mesh_octets mesh (piece_spelling piece) h.0 (piece_octets piece h.1 h.2)
spelling_octets (units.Carried mesh body) h = mesh_octets mesh (0x40 ∷ 2 ∷ body) h.0 (front 0x40 (2 ∷ body) (omega arith) (front 2 body (omega arith) h.1))
spelling_octets (units.Local code body) h = front 0x40 (code ∷ body) (omega arith) (front code body h.0 h.1)

-- # What is read

-- the octets that a unit carries
abbrev UnitOctets : MeshUnit → Type 0
UnitOctets (units.Whole mesh octets) = AreOctets octets
UnitOctets (units.Part mesh piece) = AreOctets piece.octets
UnitOctets (units.Carried mesh body) = AreOctets body
UnitOctets (units.Local code body) = AreOctets body

unit_octets : (payload : List ℕ) (unit : MeshUnit) → AreOctets payload → unit_in payload ≡ Some unit → UnitOctets unit
unfolding unit_in
unit_octets payload unit are = by_fault (is_some (unit_fault payload))
  where
    at : ℕ
    at = origin_at payload + 4

    by_kind : (a b c : Bool) → UnitOctets
        (if a then units.Whole (mesh_in payload) (after (at + 1) payload) else (if b then units.Carried (mesh_in payload) (after (at + 2) payload)
        else (if c then units.Part (mesh_in payload) (first_piece_at at payload) else units.Part (mesh_in payload) (later_piece_at at payload))))
    by_kind true b c = after_octets (at + 1) payload are
    by_kind false true c = after_octets (at + 2) payload are
    by_kind false false true = after_octets (at + 5) payload are
    by_kind false false false = after_octets (at + 5) payload are

    by_dispatch : (b : Bool) → UnitOctets (if b then units.Local (octet 1 payload) (after 2 payload) else load_in (mesh_in payload) at payload)
    by_dispatch true = after_octets 2 payload are
    by_dispatch false = by_kind (octet at payload == 0x41) (octet at payload == 0x40) (nat_lt (octet at payload) 0xC8)

    by_fault : (b : Bool) → (if b then None else Some (fields_in payload)) ≡ Some unit → UnitOctets unit
    by_fault true e = absurd (cc)
    by_fault false e = subst UnitOctets (same_Some _ _ e) (by_dispatch (octet 0 payload == 0x40))

pub read_octets : ReadUnitsHaveOctets
read_octets unit octets are e = by_unit unit (unit_spelled unit octets are e).0 (unit_octets octets unit are e)
  where
    by_unit : (unit : MeshUnit) → IsUnit unit → UnitOctets unit → HasOctets unit
    by_unit (units.Whole mesh octets) f o = (f.0.hops, o)
    by_unit (units.Part mesh piece) f o = (f.0.hops, f.1.offset, o)
    by_unit (units.Carried mesh body) f o = (f.hops, o)
    by_unit (units.Local code body) f o = (let low = f.1 in omega arith, o)
