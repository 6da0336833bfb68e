-- What is read out of octets is the unit that they spell, and the other way round; how many octets it has.
use Rattle.std.proofs.Common.{◌≡◌, ◌≢◌, ℕ, ◌+◌, ◌-◌, ◌*◌, ◌/◌, ◌%◌, ◌^◌, ◌<◌, ◌≤◌, ◌==◌, List, [], ◌∷◌, ◌++◌, length, None, Some, Result, Ok, Err}
use Rattle.std.proofs.Common.{if◌then◌else◌, refl, sym, ap, ◌∙◌, subst, inl, inr, arith, Bool, true, false}
use Rattle.std.specs.Prelude.{IfOk, MatchResult, nat_lt, ◌&&◌}
use Rattle.std.specs.Result.{result_ok}
use Rattle.std.proofs.lemmas.Bool.{cases_lt, eqb-true, eqb-false, ltb-true, ltb-false, lt-ltb, and_parts, or_parts}
use Rattle.std.proofs.lemmas.Grind.{common_steps}
use Rattle.byteorder.specs.Endian.{big_bytes}
use Rattle.plc_base.specs.Faults.{◌then◌, ◌when◌, fault_at, cut_off, address_fault}
use Rattle.plc_base.specs.Fields.{AreOctets, octet, two, after}
use Rattle.plc_base.specs.declared.fields.Fault.{Fault}
use Rattle.plc_base.proofs.Faults.{then_none, when_none, is_whole, is_node, read_by, not_read, read_from}
use Rattle.plc_base.proofs.Places.{octet_behind, octet_past, one_then, two_then, length-after, octet_low, two_behind, two_past, two_low, two_high, after_past}
use Rattle.plc_base.proofs.Places.{first_is}
use Rattle.mesh_header.specs.declared.fault.UnitFaultKind.{UnitFaultKind}
use Rattle.mesh_header.specs.declared.fault.UnitFaultKind.TheVariants.{Empty, Dispatch, AddressKind, HopForm, Short, PieceForm, Address}
use Rattle.mesh_header.specs.declared.unit.Mesh.{Mesh}
use Rattle.mesh_header.specs.declared.unit.Unit.{Unit}
use Rattle.mesh_header.specs.declared.unit.Unit.TheVariants.{Whole, Part, Carried, Local}
use Rattle.mesh_header.specs.Pieces.{Placed, IsPiece}
use Rattle.mesh_header.specs.Grammar.{IsMesh, IsUnit, Spells, spelling, spelled_length, header_length, hops_then, mesh_then, piece_spelling}
use Rattle.mesh_header.specs.Faults.{origin_at, hops_fault, header_fault, tag_fault, octet_fault, data_fault, size_fault, octets_fault, first_piece_fault}
use Rattle.mesh_header.specs.Faults.{later_piece_fault, carried_fault, local_fault, load_fault, mesh_fault, unit_fault}
use Rattle.mesh_header.specs.Reader.{hops_in, mesh_in, first_piece_at, later_piece_at, part_in, load_in, fields_in, unit_in}
use Rattle.mesh_header.specs.Laws.{UnitsAreRead, ReadUnitsAreSpelled, OneHopLessIsNoLonger}
use Rattle.mesh_header.proofs.Spellings.{no_fault, few_then, many_then, zero_spelling, some_spelling}

-- # What is spelled is read

-- a load after any front is read as this part of a unit
abbrev IsLoad : List ℕ → (Mesh → Unit) → Type 0
IsLoad load u = (mesh : Mesh) (front : List ℕ) → load_in mesh (length front) (front ++ load) ≡ u mesh

whole_load : (octets : List ℕ) → IsLoad (0x41 ∷ octets) (λ mesh. Whole mesh octets)
unfolding after
whole_load octets mesh front =
    ap (λ d. part_in d mesh (length front) (front ++ 0x41 ∷ octets)) (octet_behind front 0x41 octets)
    ∙ ap (Whole mesh) (after_past front (0x41 ∷ octets) 1)

carried_load : (body : List ℕ) → IsLoad (0x40 ∷ 2 ∷ body) (λ mesh. Carried mesh body)
unfolding after
carried_load body mesh front =
    ap (λ d. part_in d mesh (length front) (front ++ 0x40 ∷ 2 ∷ body)) (octet_behind front 0x40 (2 ∷ body))
    ∙ ap (Carried mesh) (after_past front (0x40 ∷ 2 ∷ body) 2)

-- the dispatch of a first piece, and of a later one
first_chosen : (d : ℕ) (w c f l : Unit) → 0xC0 ≤ d → d < 0xC8 → (if d == 0x41 then w else (if d == 0x40 then c else (if nat_lt d 0xC8 then f else l))) ≡ f
first_chosen d w c f l low high = grind (arith, common_steps)

later_chosen : (d : ℕ) (w c f l : Unit) → 0xE0 ≤ d → (if d == 0x41 then w else (if d == 0x40 then c else (if nat_lt d 0xC8 then f else l))) ≡ l
later_chosen d w c f l low = grind (arith, common_steps)

piece_is : (size tag offset size' tag' offset' : ℕ) (octets octets' : List ℕ) → size ≡ size' → tag ≡ tag' → offset ≡ offset' → octets ≡ octets'
    → let v : Placed = record { size = size; tag = tag; offset = offset; octets = octets } in
    v ≡ record { size = size'; tag = tag'; offset = offset'; octets = octets' }
piece_is size tag offset size' tag' offset' octets octets' a b c d = rw (a, b, c, d) refl

first_load : (p : Placed) → IsPiece p → p.offset ≡ 0 → IsLoad (big_bytes 2 (0xC000 + p.size) ++ (big_bytes 2 p.tag ++ (0x41 ∷ p.octets))) (λ mesh. Part mesh p)
unfolding octet two after
first_load p h none mesh front =
    let load : List ℕ = big_bytes 2 (0xC000 + p.size) ++ (big_bytes 2 p.tag ++ (0x41 ∷ p.octets)) in
    let d : ℕ = (0xC000 + p.size) / 256 % 256 in
    let at : octet (length front) (front ++ load) ≡ d = octet_behind front d ((0xC000 + p.size) % 256 ∷ (big_bytes 2 p.tag ++ (0x41 ∷ p.octets))) in
    let size : two (length front) (front ++ load)
    ≡ 0xC000 + p.size = two_behind front (0xC000 + p.size) (big_bytes 2 p.tag ++ (0x41 ∷ p.octets)) (omega (arith, h.size)) in
    let tag : two (length front + 2) (front ++ load) ≡ p.tag = two_past front load 2 ∙ two_behind [] p.tag (0x41 ∷ p.octets) (omega (arith, h.tag)) in
    let octets : after (length front + 5) (front ++ load) ≡ p.octets = after_past front load 5 in
    ap (λ x. part_in x mesh (length front) (front ++ load)) at
    ∙ first_chosen d _ _ _ _ (omega (arith, h.size)) (omega (arith, h.size))
    ∙ ap (Part mesh) (piece_is _ _ _ _ _ _ _ _ (ap (λ x. x - 0xC000) size ∙ omega arith) tag (sym none) octets)

later_load : (p : Placed) → IsPiece p → 0 < p.offset
    → IsLoad (big_bytes 2 (0xE000 + p.size) ++ (big_bytes 2 p.tag ++ (p.offset ∷ p.octets))) (λ mesh. Part mesh p)
unfolding octet two after
later_load p h some mesh front =
    let load : List ℕ = big_bytes 2 (0xE000 + p.size) ++ (big_bytes 2 p.tag ++ (p.offset ∷ p.octets)) in
    let d : ℕ = (0xE000 + p.size) / 256 % 256 in
    let at : octet (length front) (front ++ load) ≡ d = octet_behind front d ((0xE000 + p.size) % 256 ∷ (big_bytes 2 p.tag ++ (p.offset ∷ p.octets))) in
    let size : two (length front) (front ++ load)
    ≡ 0xE000 + p.size = two_behind front (0xE000 + p.size) (big_bytes 2 p.tag ++ (p.offset ∷ p.octets)) (omega (arith, h.size)) in
    let tag : two (length front + 2) (front ++ load) ≡ p.tag = two_past front load 2 ∙ two_behind [] p.tag (p.offset ∷ p.octets) (omega (arith, h.tag)) in
    let offset : octet (length front + 4) (front ++ load) ≡ p.offset = octet_past front load 4 in
    let octets : after (length front + 5) (front ++ load) ≡ p.octets = after_past front load 5 in
    ap (λ x. part_in x mesh (length front) (front ++ load)) at
    ∙ later_chosen d _ _ _ _ (omega (arith, h.size))
    ∙ ap (Part mesh) (piece_is _ _ _ _ _ _ _ _ (ap (λ x. x - 0xE000) size ∙ omega arith) tag offset octets)

piece_load : (p : Placed) → IsPiece p → IsLoad (piece_spelling p) (λ mesh. Part mesh p)
piece_load p h =
    elim (cases_lt 0 p.offset) [
      | inl some ↦ subst (λ load. IsLoad load (λ mesh. Part mesh p)) (sym (some_spelling p some)) (later_load p h some)
      | inr none ↦ let z : p.offset ≡ 0 = omega arith in subst (λ load. IsLoad load (λ mesh. Part mesh p)) (sym (zero_spelling p z)) (first_load p h z)
    ]

-- the header of one form or the other
mesh_chosen : (d : ℕ) (a b : Unit) → 0x80 ≤ d → (if d == 0x40 then a else b) ≡ b
mesh_chosen d a b low = grind (arith, common_steps)

short_origin : (octets : List ℕ) → octet 0 octets < 0xBF → origin_at octets ≡ 1
unfolding origin_at
short_origin octets h = grind (arith, common_steps)

short_hops : (octets : List ℕ) (hops : ℕ) → octet 0 octets ≡ 0xB0 + hops → hops < 15 → hops_in octets ≡ hops
short_hops octets hops first few = grind (arith, common_steps)

mesh_is : (hops origin to hops' origin' to' : ℕ) → hops ≡ hops' → origin ≡ origin' → to ≡ to'
    → let v : Mesh = record { hops = hops; origin = origin; to = to } in v ≡ record { hops = hops'; origin = origin'; to = to' }
mesh_is hops origin to hops' origin' to' a b c = rw (a, b, c) refl

short_read : (mesh : Mesh) (load : List ℕ) (u : Mesh → Unit) → IsMesh mesh → mesh.hops < 15 → IsLoad load u
    → fields_in ((0xB0 + mesh.hops) ∷ big_bytes 2 mesh.origin ++ (big_bytes 2 mesh.to ++ load)) ≡ u mesh
short_read mesh load u h few loads =
    let octets : List ℕ = (0xB0 + mesh.hops) ∷ big_bytes 2 mesh.origin ++ (big_bytes 2 mesh.to ++ load) in
    let front : List ℕ = (0xB0 + mesh.hops) ∷ big_bytes 2 mesh.origin ++ big_bytes 2 mesh.to in
    let first : octet 0 octets ≡ 0xB0 + mesh.hops = octet_behind [] (0xB0 + mesh.hops) (big_bytes 2 mesh.origin ++ (big_bytes 2 mesh.to ++ load)) in
    let at : origin_at octets ≡ 1 = short_origin octets (omega arith) in
    let origin : two 1 octets ≡ mesh.origin = two_behind ((0xB0 + mesh.hops) ∷ []) mesh.origin (big_bytes 2 mesh.to ++ load) (omega (arith, h.origin)) in
    let to : two 3 octets ≡ mesh.to = two_behind ((0xB0 + mesh.hops) ∷ big_bytes 2 mesh.origin) mesh.to load (omega (arith, h.to)) in
    let header : mesh_in octets ≡ mesh = mesh_is _ _ _ _ _ _ (short_hops octets mesh.hops first few) (ap (λ n. two n octets) at ∙ origin)
    (ap (λ n. two (n + 2) octets) at ∙ to) in
    mesh_chosen (octet 0 octets) _ _ (omega arith)
    ∙ ap (λ n. load_in (mesh_in octets) (n + 4) octets) at
    ∙ ap (λ m. load_in m 5 octets) header
    ∙ loads mesh front

long_read : (mesh : Mesh) (load : List ℕ) (u : Mesh → Unit) → IsMesh mesh → IsLoad load u
    → fields_in (0xBF ∷ mesh.hops ∷ big_bytes 2 mesh.origin ++ (big_bytes 2 mesh.to ++ load)) ≡ u mesh
unfolding origin_at octet
long_read mesh load u h loads =
    let octets : List ℕ = 0xBF ∷ mesh.hops ∷ big_bytes 2 mesh.origin ++ (big_bytes 2 mesh.to ++ load) in
    let front : List ℕ = 0xBF ∷ mesh.hops ∷ big_bytes 2 mesh.origin ++ big_bytes 2 mesh.to in
    let origin : two 2 octets ≡ mesh.origin = two_behind (0xBF ∷ mesh.hops ∷ []) mesh.origin (big_bytes 2 mesh.to ++ load) (omega (arith, h.origin)) in
    let to : two 4 octets ≡ mesh.to = two_behind (0xBF ∷ mesh.hops ∷ big_bytes 2 mesh.origin) mesh.to load (omega (arith, h.to)) in
    let header : mesh_in octets ≡ mesh = mesh_is _ _ _ _ _ _ refl origin to in
    ap (λ m. load_in m 6 octets) header ∙ loads mesh front

mesh_read : (mesh : Mesh) (load : List ℕ) (u : Mesh → Unit) → IsMesh mesh → IsLoad load u → fields_in (mesh_then mesh load) ≡ u mesh
mesh_read mesh load u h loads =
    elim (cases_lt mesh.hops 15) [
      | inl few ↦ ap fields_in (few_then mesh.hops _ few) ∙ short_read mesh load u h few loads
      | inr many ↦ ap fields_in (many_then mesh.hops _ many) ∙ long_read mesh load u h loads
    ]

local_fields : (code : ℕ) (body : List ℕ) → fields_in (0x40 ∷ code ∷ body) ≡ Local code body
unfolding octet after
local_fields code body = refl

unit_fields : (u : Unit) → IsUnit u → fields_in (spelling u) ≡ u
unit_fields (Whole mesh octets) h = mesh_read mesh (0x41 ∷ octets) (λ m. Whole m octets) h.0 (whole_load octets)
unit_fields (Part mesh piece) h = mesh_read mesh (piece_spelling piece) (λ m. Part m piece) h.0 (piece_load piece h.1)
unit_fields (Carried mesh body) h = mesh_read mesh (0x40 ∷ 2 ∷ body) (λ m. Carried m body) h (carried_load body)
unit_fields (Local code body) h = local_fields code body

pub unit_read : UnitsAreRead
unfolding unit_in
unit_read u octets h =
    subst (λ o. unit_in o ≡ Some u) (sym h.1)
    (read_by (unit_fault (spelling u)) _ (no_fault u h.0) ∙ ap Some (unit_fields u h.0))

-- # What is read is spelled

first_then : (octets : List ℕ) → 0 < length octets → octets ≡ octet 0 octets ∷ after 1 octets
unfolding octet
first_then octets some = first_is octets some

octet_then : (at : ℕ) (octets : List ℕ) → octet_fault at octets ≡ None → (at + 1 ≤ length octets) × (after at octets ≡ octet at octets ∷ after (at + 1) octets)
unfolding octet_fault
octet_then at octets e = let whole = is_whole Short (at + 1) octets e in (whole, one_then at octets whole)

-- the low part of two octets above a base
above_base : (base at : ℕ) (octets : List ℕ) → AreOctets octets → base ≤ octet at octets * 256 → base ≤ two at octets
unfolding two
above_base base at octets fits low = let high = two_high at (two at octets) octets fits refl in omega arith

size_is : (base at : ℕ) (octets : List ℕ) → base ≤ two at octets → size_fault base at octets ≡ None
    → (at + 2 ≤ length octets) × (0 < two at octets - base) × (two at octets - base ≤ 1280)
unfolding size_fault
size_is base at octets low e =
    let parts = then_none (cut_off Short (at + 2) octets) _ e in
    let tests = or_parts _ _ (when_none _ _ parts.1) in
    let other : two at octets ≢ base = eqb-false _ _ tests.0 in
    let high : two at octets ≤ base + 1280 = ltb-false _ _ tests.1 in
    (is_whole Short (at + 2) octets parts.0, omega arith, omega arith)

-- the octets of a piece
record IsHeld (size offset at : ℕ) (octets : List ℕ) : Type 0 where
  some : 0 < length (after at octets)
  within : offset * 8 + length (after at octets) ≤ size
  eighths : offset * 8 + length (after at octets) < size → length (after at octets) % 8 ≡ 0

no_rest : (m size r : ℕ) → (nat_lt m size && nat_lt 0 r) ≡ false → m < size → r ≡ 0
no_rest m size r e less =
    let low : nat_lt 0 r ≡ false = ap (λ (t : Bool). t && nat_lt 0 r) (sym (lt-ltb m size less)) ∙ e in
    let none : r ≤ 0 = ltb-false _ _ low in
    omega arith

held : (size offset at : ℕ) (octets : List ℕ) → octets_fault size offset at octets ≡ None → IsHeld size offset at octets
unfolding octets_fault
held size offset at octets e =
    let len = length-after at octets in
    let tests = or_parts _ _ (when_none _ _ e) in
    let first = or_parts _ _ tests.0 in
    let some : length octets - at ≢ 0 = eqb-false _ _ first.0 in
    let within : offset * 8 + (length octets - at) ≤ size = ltb-false _ _ first.1 in
    record {
      some = omega arith;
      within = omega arith;
      eighths = λ less. ap (λ (n : ℕ). n % 8) len ∙ no_rest (offset * 8 + (length octets - at)) size ((length octets - at) % 8) tests.1 (omega arith);
    }

-- what stands after a mesh header is spelled by what is read of it
abbrev IsLoadOf : Mesh → ℕ → List ℕ → Unit → Type 0
IsLoadOf mesh at octets unit = IsUnit unit × (mesh_then mesh (after at octets) ≡ spelling unit)

whole_load_is : (mesh : Mesh) (at : ℕ) (octets : List ℕ) → IsMesh mesh → after at octets ≡ 0x41 ∷ after (at + 1) octets → data_fault (at + 1) octets ≡ None
    → IsLoadOf mesh at octets (Whole mesh (after (at + 1) octets))
unfolding data_fault
whole_load_is mesh at octets h is e =
    let len = length-after (at + 1) octets in
    let tests = or_parts _ _ (when_none _ _ e) in
    let low : at + 1 + 1 ≤ length octets = ltb-false _ _ tests.0 in
    let high : length octets ≤ at + 1 + 375 = ltb-false _ _ tests.1 in
    ((h, omega arith, omega arith), ap (mesh_then mesh) is)

carried_load_is : (mesh : Mesh) (at : ℕ) (octets : List ℕ) → IsMesh mesh → after at octets ≡ 0x40 ∷ after (at + 1) octets → carried_fault (at + 1) octets ≡ None
    → IsLoadOf mesh at octets (Carried mesh (after (at + 2) octets))
unfolding carried_fault
carried_load_is mesh at octets h is e =
    let parts = then_none (octet_fault (at + 1) octets) _ e in
    let next = octet_then (at + 1) octets parts.0 in
    let code : octet (at + 1) octets ≡ 2 = by_code (octet (at + 1) octets == 2) refl parts.1 in
    let place : at + 1 + 1 ≡ at + 2 = omega arith in
    let rest : after (at + 1) octets ≡ 2 ∷ after (at + 2) octets = next.1 ∙ (λ i. code i ∷ after (place i) octets) in
    (h, ap (mesh_then mesh) (is ∙ ap (λ (xs : List ℕ). 0x40 ∷ xs) rest))
  where
    by_code : (b : Bool) → (octet (at + 1) octets == 2) ≡ b → (if b then None else fault_at Dispatch (at + 1)) ≡ None → octet (at + 1) octets ≡ 2
    by_code true is e = eqb-true _ _ is
    by_code false is e = absurd (cc)

-- the size and the tag of a piece, and what follows them
piece_front : (base at : ℕ) (octets : List ℕ) → AreOctets octets → base ≤ two at octets → at + 2 ≤ length octets → tag_fault (at + 2) octets ≡ None
    → octet_fault (at + 4) octets ≡ None
    → after at octets ≡ big_bytes 2 (base + (two at octets - base)) ++ (big_bytes 2 (two (at + 2) octets) ++ (octet (at + 4) octets ∷ after (at + 5) octets))
unfolding tag_fault
piece_front base at octets fits low whole tag next =
    let e0 = two_then at octets fits whole in
    let e1 = two_then (at + 2) octets fits (is_whole Short (at + 2 + 2) octets tag) in
    let e2 = (octet_then (at + 4) octets next).1 in
    let four : at + 2 + 2 ≡ at + 4 = omega arith in
    let five : at + 4 + 1 ≡ at + 5 = omega arith in
    let size : two at octets ≡ base + (two at octets - base) = omega arith in
    e0 ∙ (λ i. big_bytes 2 (size i) ++ (e1 ∙ ap (λ (n : ℕ). big_bytes 2 (two (at + 2) octets) ++ after n octets) four) i)
    ∙ ap (λ (xs : List ℕ). big_bytes 2 (base + (two at octets - base)) ++ (big_bytes 2 (two (at + 2) octets) ++ xs))
    (e2 ∙ ap (λ (n : ℕ). octet (at + 4) octets ∷ after n octets) five)

first_piece_is : (mesh : Mesh) (at : ℕ) (octets : List ℕ) → AreOctets octets → IsMesh mesh → 0xC0 ≤ octet at octets → first_piece_fault at octets ≡ None
    → IsLoadOf mesh at octets (Part mesh (first_piece_at at octets))
unfolding first_piece_fault
first_piece_is mesh at octets fits h low e =
    let a = then_none (size_fault 0xC000 at octets) _ e in
    let b = then_none (tag_fault (at + 2) octets) _ a.1 in
    let c = then_none (octet_fault (at + 4) octets) _ b.1 in
    let d = then_none (if octet (at + 4) octets == 0x41 then None else fault_at Dispatch (at + 4)) _ c.1 in
    let base = above_base 0xC000 at octets fits (omega arith) in
    let size = size_is 0xC000 at octets base a.0 in
    let parts = held (two at octets - 0xC000) 0 (at + 5) octets d.1 in
    let tag = two_low (at + 2) octets fits in
    let kind : octet (at + 4) octets ≡ 0x41 = by_kind (octet (at + 4) octets == 0x41) refl d.0 in
    let is = piece_front 0xC000 at octets fits base size.0 b.0 c.0 in
    let spelled : after at octets ≡ piece_spelling (first_piece_at at octets) =
    is ∙ ap (λ (x : ℕ). big_bytes 2 (0xC000 + (two at octets - 0xC000)) ++ (big_bytes 2 (two (at + 2) octets) ++ (x ∷ after (at + 5) octets))) kind
    ∙ sym (zero_spelling (first_piece_at at octets) refl) in (
      (h, record { size = (size.1, size.2); tag = tag; offset = omega arith; some = parts.some; within = parts.within; eighths = parts.eighths }),
      ap (mesh_then mesh) spelled,
    )
  where
    by_kind : (b : Bool) → (octet (at + 4) octets == 0x41) ≡ b → (if b then None else fault_at Dispatch (at + 4)) ≡ None → octet (at + 4) octets ≡ 0x41
    by_kind true is e = eqb-true _ _ is
    by_kind false is e = absurd (cc)

later_piece_is : (mesh : Mesh) (at : ℕ) (octets : List ℕ) → AreOctets octets → IsMesh mesh → 0xE0 ≤ octet at octets → later_piece_fault at octets ≡ None
    → IsLoadOf mesh at octets (Part mesh (later_piece_at at octets))
unfolding later_piece_fault
later_piece_is mesh at octets fits h low e =
    let a = then_none (size_fault 0xE000 at octets) _ e in
    let b = then_none (tag_fault (at + 2) octets) _ a.1 in
    let c = then_none (octet_fault (at + 4) octets) _ b.1 in
    let d = then_none (fault_at PieceForm (at + 5) when octet (at + 4) octets == 0) _ c.1 in
    let base = above_base 0xE000 at octets fits (omega arith) in
    let size = size_is 0xE000 at octets base a.0 in
    let offset : octet (at + 4) octets ≢ 0 = eqb-false _ _ (when_none _ _ d.0) in
    let parts = held (two at octets - 0xE000) (octet (at + 4) octets) (at + 5) octets d.1 in
    let tag = two_low (at + 2) octets fits in
    let small = octet_low (at + 4) octets fits in
    let is = piece_front 0xE000 at octets fits base size.0 b.0 c.0 in
    let spelled : after at octets ≡ piece_spelling (later_piece_at at octets) = is ∙ sym (some_spelling (later_piece_at at octets) (omega arith)) in (
      (h, record { size = (size.1, size.2); tag = tag; offset = small; some = parts.some; within = parts.within; eighths = parts.eighths }),
      ap (mesh_then mesh) spelled,
    )

load_is : (mesh : Mesh) (at : ℕ) (octets : List ℕ) → AreOctets octets → IsMesh mesh → load_fault at octets ≡ None
    → IsLoadOf mesh at octets (load_in mesh at octets)
unfolding load_fault
load_is mesh at octets fits h e =
    by_kind (octet at octets == 0x41) (octet at octets == 0x40) (nat_lt 0xBF (octet at octets)) (nat_lt (octet at octets) 0xC8)
    (nat_lt 0xDF (octet at octets) && nat_lt (octet at octets) 0xE8) refl refl refl refl refl (then_none (octet_fault at octets) _ e).1
  where
    is : after at octets ≡ octet at octets ∷ after (at + 1) octets
    is = (octet_then at octets (then_none (octet_fault at octets) _ e).0).1

    by_kind : (a b c c' d : Bool) → (octet at octets == 0x41) ≡ a → (octet at octets == 0x40) ≡ b → nat_lt 0xBF (octet at octets) ≡ c
        → nat_lt (octet at octets) 0xC8 ≡ c'
        → (nat_lt 0xDF (octet at octets) && nat_lt (octet at octets) 0xE8) ≡ d
        → (if a then data_fault (at + 1) octets
        else (if b then carried_fault (at + 1) octets
        else (if c && c' then first_piece_fault at octets else (if d then later_piece_fault at octets else fault_at Dispatch at)))) ≡ None
        → IsLoadOf mesh at octets (if a then Whole mesh (after (at + 1) octets)
        else (if b then Carried mesh (after (at + 2) octets) else (if c' then Part mesh (first_piece_at at octets) else Part mesh (later_piece_at at octets))))
    by_kind true b c c' d ea eb ec ec' ed none = whole_load_is mesh at octets h (is ∙ ap (λ (x : ℕ). x ∷ after (at + 1) octets) (eqb-true _ _ ea)) none
    by_kind false true c c' d ea eb ec ec' ed none = carried_load_is mesh at octets h (is ∙ ap (λ (x : ℕ). x ∷ after (at + 1) octets) (eqb-true _ _ eb)) none
    by_kind false false true true d ea eb ec ec' ed none =
        let low : 0xBF < octet at octets = ltb-true _ _ ec in first_piece_is mesh at octets fits h (omega arith) none
    by_kind false false true false true ea eb ec ec' ed none =
        let low : 0xDF < octet at octets = ltb-true _ _ (and_parts _ _ ed).0 in later_piece_is mesh at octets fits h (omega arith) none
    by_kind false false true false false ea eb ec ec' ed none = absurd (cc)
    by_kind false false false true true ea eb ec ec' ed none =
        let low : 0xDF < octet at octets = ltb-true _ _ (and_parts _ _ ed).0 in
        let high : octet at octets ≤ 0xBF = ltb-false _ _ ec in
        absurd (omega arith)
    by_kind false false false true false ea eb ec ec' ed none = absurd (cc)
    by_kind false false false false true ea eb ec ec' ed none =
        let low : 0xDF < octet at octets = ltb-true _ _ (and_parts _ _ ed).0 in later_piece_is mesh at octets fits h (omega arith) none
    by_kind false false false false false ea eb ec ec' ed none = absurd (cc)

-- the hops of a mesh header, and what follows them
record AreHops (octets : List ℕ) : Type 0 where
  low : hops_in octets < 2 ^ 8
  spelled : octets ≡ hops_then (hops_in octets) (after (origin_at octets) octets)

hops_are : (octets : List ℕ) → AreOctets octets → 0 < length octets → octet 0 octets < 0xC0 → hops_fault octets ≡ None → AreHops octets
unfolding hops_fault origin_at
hops_are octets fits some high e = by_form (octet 0 octets == 0xBF) refl (then_none (fault_at AddressKind 0 when nat_lt (octet 0 octets) 0xB0) _ e).1
  where
    short : 0xB0 ≤ octet 0 octets
    short = ltb-false _ _ (when_none _ _ (then_none (fault_at AddressKind 0 when nat_lt (octet 0 octets) 0xB0) _ e).0)

    by_form : (b : Bool) → (octet 0 octets == 0xBF) ≡ b
        → (if b then cut_off Short 2 octets then fault_at HopForm 1 when nat_lt (octet 1 octets) 15 else None) ≡ None → AreHops octets
    by_form true is none =
        let parts = then_none (cut_off Short 2 octets) _ none in
        let whole = is_whole Short 2 octets parts.0 in
        let many : 15 ≤ octet 1 octets = ltb-false _ _ (when_none _ _ parts.1) in
        let first : octet 0 octets ≡ 0xBF = eqb-true _ _ is in
        let small = octet_low 1 octets fits in
        let e0 = first_then octets some in
        let e1 : after 1 octets ≡ octet 1 octets ∷ after 2 octets = one_then 1 octets whole in
        let spelled : octets ≡ 0xBF ∷ octet 1 octets ∷ after 2 octets = cc (e0, e1, first) in
        record {
          low = rw is (omega arith);
          spelled = rw is (spelled ∙ sym (many_then (octet 1 octets) (after 2 octets) many));
        }
    by_form false is none =
        let low : 0xB0 ≤ octet 0 octets = short in
        let other : octet 0 octets ≢ 0xBF = eqb-false _ _ is in
        let e0 = first_then octets some in
        let back : octet 0 octets ≡ 0xB0 + (octet 0 octets - 0xB0) = omega arith in
        record {
          low = rw is (omega arith);
          spelled = rw is (e0 ∙ ap (λ (x : ℕ). x ∷ after 1 octets) back ∙ sym (few_then (octet 0 octets - 0xB0) (after 1 octets) (omega arith)));
        }

mesh_is_spelled : (octets : List ℕ) → AreOctets octets → 0 < length octets → octet 0 octets < 0xC0 → header_fault octets ≡ None
    → IsMesh (mesh_in octets) × (octets ≡ mesh_then (mesh_in octets) (after (origin_at octets + 4) octets))
unfolding header_fault
mesh_is_spelled octets fits some high e =
    let at : ℕ = origin_at octets in
    let a = then_none (hops_fault octets) _ e in
    let b = then_none (address_fault Short Address at octets) _ a.1 in
    let hops = hops_are octets fits some high a.0 in
    let origin = is_node Short Address at octets b.0 in
    let to = is_node Short Address (at + 2) octets b.1 in
    let e1 = two_then at octets fits origin.0 in
    let e2 = two_then (at + 2) octets fits to.0 in
    let four : at + 2 + 2 ≡ at + 4 = omega arith in (
      record { hops = hops.low; origin = origin.1; to = to.1 },
      hops.spelled ∙ ap (hops_then (hops_in octets))
          (e1 ∙ ap (λ (xs : List ℕ). big_bytes 2 (two at octets) ++ xs) (e2 ∙ ap (λ (n : ℕ). big_bytes 2 (two (at + 2) octets) ++ after n octets) four)),
    )

local_is : (octets : List ℕ) → octets ≡ 0x40 ∷ after 1 octets → local_fault 1 octets ≡ None → Spells (Local (octet 1 octets) (after 2 octets)) octets
unfolding local_fault
local_is octets is e =
    let parts = then_none (octet_fault 1 octets) _ e in
    let tests = or_parts _ _ (when_none _ _ parts.1) in
    let low : octet 1 octets ≢ 0 = eqb-false _ _ tests.0 in
    let high : octet 1 octets ≤ 5 = ltb-false _ _ tests.1 in
    let next = octet_then 1 octets parts.0 in
    ((omega arith, high), is ∙ ap (λ (xs : List ℕ). 0x40 ∷ xs) next.1)

fields_spelled : (octets : List ℕ) → AreOctets octets → unit_fault octets ≡ None → Spells (fields_in octets) octets
fields_spelled octets fits e =
    by_kind (nat_lt 0x7F (octet 0 octets)) (nat_lt (octet 0 octets) 0xC0) (octet 0 octets == 0x40) refl refl refl
    (then_none (fault_at Empty 0 when length octets == 0) _ e).1
  where
    some : 0 < length octets
    some = let other : length octets ≢ 0 = eqb-false _ _ (when_none _ _ (then_none (fault_at Empty 0 when length octets == 0) _ e).0) in omega arith

    by_kind : (a a' b : Bool) → nat_lt 0x7F (octet 0 octets) ≡ a → nat_lt (octet 0 octets) 0xC0 ≡ a' → (octet 0 octets == 0x40) ≡ b
        → (if a && a' then mesh_fault octets else (if b then local_fault 1 octets else fault_at Dispatch 0)) ≡ None
        → Spells (if b then Local (octet 1 octets) (after 2 octets) else load_in (mesh_in octets) (origin_at octets + 4) octets) octets
    by_kind true true true ea ea' eb none =
        let low : 0x7F < octet 0 octets = ltb-true _ _ ea in
        let is : octet 0 octets ≡ 0x40 = eqb-true _ _ eb in
        absurd (omega arith)
    by_kind true true false ea ea' eb none =
        let parts = then_none (header_fault octets) _ none in
        let high : octet 0 octets < 0xC0 = ltb-true _ _ ea' in
        let mesh = mesh_is_spelled octets fits some high parts.0 in
        let load = load_is (mesh_in octets) (origin_at octets + 4) octets fits mesh.0 parts.1 in
        (load.0, mesh.1 ∙ load.1)
    by_kind true false true ea ea' eb none = local_is octets (first_then octets some ∙ ap (λ (x : ℕ). x ∷ after 1 octets) (eqb-true _ _ eb)) none
    by_kind true false false ea ea' eb none = absurd (cc)
    by_kind false a' true ea ea' eb none = local_is octets (first_then octets some ∙ ap (λ (x : ℕ). x ∷ after 1 octets) (eqb-true _ _ eb)) none
    by_kind false a' false ea ea' eb none = absurd (cc)

pub unit_spelled : ReadUnitsAreSpelled
unfolding unit_in
unit_spelled u octets fits is =
    let read = read_from (unit_fault octets) (fields_in octets) u is in
    subst (λ v. Spells v octets) read.1 (fields_spelled octets fits read.0)

-- # How long a unit is

length-mesh_then : (mesh : Mesh) (rest : List ℕ) → length (mesh_then mesh rest) ≡ header_length mesh.hops + length rest
unfolding hops_then
length-mesh_then mesh rest = by_hops (nat_lt mesh.hops 15)
  where
    by_hops : (b : Bool) → length (if b then (0xB0 + mesh.hops) ∷ (big_bytes 2 mesh.origin ++ (big_bytes 2 mesh.to ++ rest))
        else 0xBF ∷ mesh.hops ∷ (big_bytes 2 mesh.origin ++ (big_bytes 2 mesh.to ++ rest)))
        ≡ (if b then 5 else 6) + length rest
    by_hops true = omega arith
    by_hops false = omega arith

length-piece_spelling : (piece : Placed) → length (piece_spelling piece) ≡ 5 + length piece.octets
unfolding piece_spelling
length-piece_spelling piece = by_offset (piece.offset == 0)
  where
    by_offset : (b : Bool) → length (if b then big_bytes 2 (0xC000 + piece.size) ++ (big_bytes 2 piece.tag ++ (0x41 ∷ piece.octets))
        else big_bytes 2 (0xE000 + piece.size) ++ (big_bytes 2 piece.tag ++ (piece.offset ∷ piece.octets)))
        ≡ 5 + length piece.octets
    by_offset true = omega arith
    by_offset false = omega arith

length-spelling : (u : Unit) → length (spelling u) ≡ spelled_length u
length-spelling (Whole mesh octets) = omega (arith, length-mesh_then mesh (0x41 ∷ octets))
length-spelling (Part mesh piece) = omega (arith, length-mesh_then mesh (piece_spelling piece), length-piece_spelling piece)
length-spelling (Carried mesh body) = omega (arith, length-mesh_then mesh (0x40 ∷ 2 ∷ body))
length-spelling (Local code body) = omega arith

pub hop_less_length : OneHopLessIsNoLonger
hop_less_length mesh = grind (arith, common_steps)

-- # What the reader answers

pub value_read : (octets : List ℕ) (r : Result Unit (Fault UnitFaultKind)) → IfOk r (λ u. Spells u octets)
    → MatchResult r (λ u. unit_fault octets ≡ None) (λ e. unit_fault octets ≡ Some e) → unit_in octets ≡ result_ok r
unfolding unit_in
value_read octets (Ok u) found exact = unit_read u octets found
value_read octets (Err e) found exact = not_read (unit_fault octets) e (fields_in octets) exact

pub length_read : (octets : List ℕ) (r : Result Unit (Fault UnitFaultKind)) → IfOk r (λ u. Spells u octets) → IfOk r (λ u. spelled_length u ≡ length octets)
length_read octets (Ok u) found = sym (ap length found.1 ∙ length-spelling u)
length_read octets (Err e) found = tt
