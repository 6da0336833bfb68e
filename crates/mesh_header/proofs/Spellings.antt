-- A unit's spelling has no fault.
use Rattle.std.proofs.Common.{◌≡◌, ℕ, ◌+◌, ◌-◌, ◌*◌, ◌/◌, ◌%◌, ◌<◌, ◌≤◌, List, [], ◌∷◌, ◌++◌, length, None, refl, ap, ◌∙◌, arith, inl, inr, length-append}
use Rattle.std.proofs.lemmas.Bool.{cases_lt}
use Rattle.byteorder.specs.Endian.{big_bytes}
use Rattle.std.proofs.lemmas.Grind.{common_steps}
use Rattle.plc_base.specs.Fields.{octet, two}
use Rattle.plc_base.specs.Addresses.{IsAddress}
use Rattle.plc_base.specs.Faults.{cut_off, address_fault}
use Rattle.plc_base.proofs.Faults.{cut_off-none, address_fault-none}
use Rattle.plc_base.proofs.Places.{octet_past, octet_behind, two_behind}
use Rattle.mesh_header.specs.declared.unit.Mesh.{Mesh}
use Rattle.mesh_header.specs.Pieces.{Placed, IsPiece}
use Rattle.mesh_header.specs.declared.unit.Unit.{Unit}
use Rattle.mesh_header.specs.declared.unit.Unit.TheVariants.{Whole, Part, Carried, Local}
use Rattle.mesh_header.specs.Grammar.{IsMesh, IsUnit, spelling, piece_spelling, hops_then, mesh_then}
use Rattle.mesh_header.specs.declared.fault.UnitFaultKind.TheVariants.{Short, Address}
use Rattle.mesh_header.specs.Faults.{tag_fault, octet_fault, data_fault, size_fault, octets_fault, first_piece_fault, later_piece_fault, carried_fault}
use Rattle.mesh_header.specs.Faults.{local_fault, load_fault, hops_fault, origin_at, header_fault, part_fault, mesh_fault, first_fault, unit_fault}

-- a field that is as it should be has no fault
tag_none : (at : ℕ) (octets : List ℕ) → at + 2 ≤ length octets → tag_fault at octets ≡ None
unfolding tag_fault
tag_none at octets h = cut_off-none Short (at + 2) octets h

octet_none : (at : ℕ) (octets : List ℕ) → at + 1 ≤ length octets → octet_fault at octets ≡ None
unfolding octet_fault
octet_none at octets h = cut_off-none Short (at + 1) octets h

size_none : (base size at : ℕ) (octets : List ℕ) → at + 2 ≤ length octets → two at octets ≡ base + size → 0 < size → size ≤ 1280
    → size_fault base at octets ≡ None
unfolding size_fault cut_off
size_none base size at octets h is low high = grind (arith, common_steps)

data_none : (at : ℕ) (octets : List ℕ) → at + 1 ≤ length octets → length octets ≤ at + 375 → data_fault at octets ≡ None
unfolding data_fault
data_none at octets low high = grind (arith, common_steps)

octets_none : (size offset n at : ℕ) (octets : List ℕ) → length octets ≡ at + n → 0 < n → offset * 8 + n ≤ size → (offset * 8 + n < size → n % 8 ≡ 0)
    → octets_fault size offset at octets ≡ None
unfolding octets_fault
octets_none size offset n at octets len some within eighths =
    let is : length octets - at ≡ n = omega arith in
    rw is (grind (arith, common_steps))

hops_none : (octets : List ℕ) → 0xB0 ≤ octet 0 octets → (octet 0 octets ≡ 0xBF → 2 ≤ length octets) → (octet 0 octets ≡ 0xBF → 15 ≤ octet 1 octets)
    → hops_fault octets ≡ None
unfolding hops_fault cut_off
hops_none octets low long high = grind (arith, common_steps)

-- a piece stands after other octets
first_none : (front : List ℕ) (p : Placed) → IsPiece p → p.offset ≡ 0
    → first_piece_fault (length front) (front ++ (big_bytes 2 (0xC000 + p.size) ++ (big_bytes 2 p.tag ++ (0x41 ∷ p.octets)))) ≡ None
unfolding first_piece_fault octet
first_none front p h zero_offset =
    let piece : List ℕ = big_bytes 2 (0xC000 + p.size) ++ (big_bytes 2 p.tag ++ (0x41 ∷ p.octets)) in
    let octets : List ℕ = front ++ piece in
    let len : length octets ≡ length front + (5 + length p.octets) = omega (arith, length-append front piece) in
    let size : two (length front) octets
    ≡ 0xC000 + p.size = two_behind front (0xC000 + p.size) (big_bytes 2 p.tag ++ (0x41 ∷ p.octets)) (omega (arith, h.size)) in
    let part : octet (length front + 4) octets ≡ 0x41 = octet_past front piece 4 in
    let less : two (length front) octets - 0xC000 ≡ p.size = omega (arith, size) in
    let f1 : size_fault 0xC000 (length front) octets ≡ None = size_none 0xC000 p.size (length front) octets (omega arith) size h.size.0 h.size.1 in
    let f2 : tag_fault (length front + 2) octets ≡ None = tag_none (length front + 2) octets (omega arith) in
    let f3 : octet_fault (length front + 4) octets ≡ None = octet_none (length front + 4) octets (omega arith) in
    let f4 : octets_fault p.size 0 (length front + 5) octets ≡ None = octets_none p.size 0 (length p.octets) (length front + 5) octets (omega arith) h.some
    (omega (arith, h.within)) (λ l. h.eighths (omega arith)) in
    rw (f1, f2, f3, part, less, f4) refl

later_none : (front : List ℕ) (p : Placed) → IsPiece p → 0 < p.offset
    → later_piece_fault (length front) (front ++ (big_bytes 2 (0xE000 + p.size) ++ (big_bytes 2 p.tag ++ (p.offset ∷ p.octets)))) ≡ None
unfolding later_piece_fault octet
later_none front p h some_offset =
    let piece : List ℕ = big_bytes 2 (0xE000 + p.size) ++ (big_bytes 2 p.tag ++ (p.offset ∷ p.octets)) in
    let octets : List ℕ = front ++ piece in
    let len : length octets ≡ length front + (5 + length p.octets) = omega (arith, length-append front piece) in
    let size : two (length front) octets
    ≡ 0xE000 + p.size = two_behind front (0xE000 + p.size) (big_bytes 2 p.tag ++ (p.offset ∷ p.octets)) (omega (arith, h.size)) in
    let part : octet (length front + 4) octets ≡ p.offset = octet_past front piece 4 in
    let less : two (length front) octets - 0xE000 ≡ p.size = omega (arith, size) in
    let f1 : size_fault 0xE000 (length front) octets ≡ None = size_none 0xE000 p.size (length front) octets (omega arith) size h.size.0 h.size.1 in
    let f2 : tag_fault (length front + 2) octets ≡ None = tag_none (length front + 2) octets (omega arith) in
    let f3 : octet_fault (length front + 4) octets ≡ None = octet_none (length front + 4) octets (omega arith) in
    let f4 : octets_fault p.size p.offset (length front + 5) octets
    ≡ None = octets_none p.size p.offset (length p.octets) (length front + 5) octets (omega arith) h.some h.within h.eighths in
    rw (f1, f2, f3, part, less, f4) (grind (arith, common_steps))

load_octet : (front : List ℕ) (x : ℕ) (rest : List ℕ) → octet_fault (length front) (front ++ x ∷ rest) ≡ None
load_octet front x rest = octet_none (length front) (front ++ x ∷ rest) (omega (arith, length-append front (x ∷ rest)))

whole_none : (front held : List ℕ) → 0 < length held → length held ≤ 375 → load_fault (length front) (front ++ 0x41 ∷ held) ≡ None
unfolding load_fault
whole_none front held low high =
    let len : length (front ++ 0x41 ∷ held) ≡ length front + (1 + length held) = omega (arith, length-append front (0x41 ∷ held)) in
    rw (load_octet front 0x41 held, octet_behind front 0x41 held) (data_none (length front + 1) (front ++ 0x41 ∷ held) (omega arith) (omega arith))

carried_none : (front body : List ℕ) → load_fault (length front) (front ++ 0x40 ∷ 2 ∷ body) ≡ None
unfolding load_fault carried_fault octet
carried_none front body =
    let octets : List ℕ = front ++ 0x40 ∷ 2 ∷ body in
    let len : length octets ≡ length front + (2 + length body) = omega (arith, length-append front (0x40 ∷ 2 ∷ body)) in
    let code : octet (length front + 1) octets ≡ 2 = octet_past front (0x40 ∷ 2 ∷ body) 1 in
    rw (load_octet front 0x40 (2 ∷ body), octet_behind front 0x40 (2 ∷ body), octet_none (length front + 1) octets (omega arith), code) refl

is_first : (d at : ℕ) (octets : List ℕ) → 0xC0 ≤ d → d < 0xC8 → part_fault d at octets ≡ first_piece_fault at octets
is_first d at octets low high = grind (arith, common_steps)

is_later : (d at : ℕ) (octets : List ℕ) → 0xE0 ≤ d → d < 0xE8 → part_fault d at octets ≡ later_piece_fault at octets
is_later d at octets low high = grind (arith, common_steps)

pub zero_spelling : (p : Placed) → p.offset ≡ 0 → piece_spelling p ≡ big_bytes 2 (0xC000 + p.size) ++ (big_bytes 2 p.tag ++ (0x41 ∷ p.octets))
unfolding piece_spelling
zero_spelling p h = grind (arith, common_steps)

pub some_spelling : (p : Placed) → 0 < p.offset → piece_spelling p ≡ big_bytes 2 (0xE000 + p.size) ++ (big_bytes 2 p.tag ++ (p.offset ∷ p.octets))
unfolding piece_spelling
some_spelling p h = grind (arith, common_steps)

load_zero : (front : List ℕ) (p : Placed) → IsPiece p → p.offset ≡ 0
    → load_fault (length front) (front ++ (big_bytes 2 (0xC000 + p.size) ++ (big_bytes 2 p.tag ++ (0x41 ∷ p.octets)))) ≡ None
unfolding load_fault
load_zero front p h zero_offset =
    let d : ℕ = (0xC000 + p.size) / 256 % 256 in
    let rest : List ℕ = (0xC000 + p.size) % 256 ∷ (big_bytes 2 p.tag ++ (0x41 ∷ p.octets)) in
    rw (load_octet front d rest, octet_behind front d rest)
    (is_first d (length front) (front ++ d ∷ rest) (omega (arith, h.size)) (omega (arith, h.size)) ∙ first_none front p h zero_offset)

load_some : (front : List ℕ) (p : Placed) → IsPiece p → 0 < p.offset
    → load_fault (length front) (front ++ (big_bytes 2 (0xE000 + p.size) ++ (big_bytes 2 p.tag ++ (p.offset ∷ p.octets)))) ≡ None
unfolding load_fault
load_some front p h some_offset =
    let d : ℕ = (0xE000 + p.size) / 256 % 256 in
    let rest : List ℕ = (0xE000 + p.size) % 256 ∷ (big_bytes 2 p.tag ++ (p.offset ∷ p.octets)) in
    rw (load_octet front d rest, octet_behind front d rest)
    (is_later d (length front) (front ++ d ∷ rest) (omega (arith, h.size)) (omega (arith, h.size)) ∙ later_none front p h some_offset)

piece_none : (front : List ℕ) (p : Placed) → IsPiece p → load_fault (length front) (front ++ piece_spelling p) ≡ None
piece_none front p h =
    elim (cases_lt 0 p.offset) [
      | inl some_offset ↦ rw (some_spelling p some_offset) (load_some front p h some_offset)
      | inr none ↦ let z : p.offset ≡ 0 = omega arith in rw (zero_spelling p z) (load_zero front p h z)
    ]

-- a header of one spelling or the other, before a load that has no fault
is_mesh : (d : ℕ) (octets : List ℕ) → 0x80 ≤ d → d < 0xC0 → first_fault d octets ≡ mesh_fault octets
is_mesh d octets low high = grind (arith, common_steps)

not_empty : (octets : List ℕ) → 0 < length octets → unit_fault octets ≡ first_fault (octet 0 octets) octets
not_empty octets h = grind (arith, common_steps)

origin_one : (octets : List ℕ) → octet 0 octets < 0xBF → origin_at octets ≡ 1
unfolding origin_at
origin_one octets h = grind (arith, common_steps)

origin_two : (octets : List ℕ) → octet 0 octets ≡ 0xBF → origin_at octets ≡ 2
unfolding origin_at
origin_two octets h = grind (arith, common_steps)

few_none : (hops o t : ℕ) (load : List ℕ) → hops < 15 → IsAddress o → IsAddress t → ((front : List ℕ) → load_fault (length front) (front ++ load) ≡ None)
    → unit_fault ((0xB0 + hops) ∷ big_bytes 2 o ++ (big_bytes 2 t ++ load)) ≡ None
unfolding header_fault
few_none hops o t load few ho ht loads =
    let octets : List ℕ = (0xB0 + hops) ∷ big_bytes 2 o ++ (big_bytes 2 t ++ load) in
    let first : octet 0 octets ≡ 0xB0 + hops = octet_behind [] (0xB0 + hops) (big_bytes 2 o ++ (big_bytes 2 t ++ load)) in
    let f1 : hops_fault octets ≡ None = hops_none octets (omega arith) (λ e. omega arith) (λ e. absurd (omega arith)) in
    let at : origin_at octets ≡ 1 = origin_one octets (omega arith) in
    let f2 : address_fault Short Address 1 octets
    ≡ None = address_fault-none Short Address 1 o octets (omega arith) (two_behind ((0xB0 + hops) ∷ []) o (big_bytes 2 t ++ load) (omega arith)) ho in
    let f3 : address_fault Short Address 3 octets
    ≡ None = address_fault-none Short Address 3 t octets (omega arith) (two_behind ((0xB0 + hops) ∷ big_bytes 2 o) t load (omega arith)) ht in
    let f4 : load_fault 5 octets ≡ None = loads ((0xB0 + hops) ∷ big_bytes 2 o ++ big_bytes 2 t) in
    let whole : mesh_fault octets ≡ None = rw (f1, at, f2, f3, f4) refl in
    not_empty octets (omega arith) ∙ ap (λ (d : ℕ). first_fault d octets) first ∙ is_mesh (0xB0 + hops) octets (omega arith) (omega arith) ∙ whole

many_none : (hops o t : ℕ) (load : List ℕ) → 15 ≤ hops → IsAddress o → IsAddress t → ((front : List ℕ) → load_fault (length front) (front ++ load) ≡ None)
    → unit_fault (0xBF ∷ hops ∷ big_bytes 2 o ++ (big_bytes 2 t ++ load)) ≡ None
unfolding header_fault octet
many_none hops o t load many ho ht loads =
    let octets : List ℕ = 0xBF ∷ hops ∷ big_bytes 2 o ++ (big_bytes 2 t ++ load) in
    let first : octet 0 octets ≡ 0xBF = refl in
    let second : octet 1 octets ≡ hops = refl in
    let f1 : hops_fault octets ≡ None = hops_none octets (omega arith) (λ e. omega arith) (λ e. omega arith) in
    let at : origin_at octets ≡ 2 = origin_two octets refl in
    let f2 : address_fault Short Address 2 octets
    ≡ None = address_fault-none Short Address 2 o octets (omega arith) (two_behind (0xBF ∷ hops ∷ []) o (big_bytes 2 t ++ load) (omega arith)) ho in
    let f3 : address_fault Short Address 4 octets
    ≡ None = address_fault-none Short Address 4 t octets (omega arith) (two_behind (0xBF ∷ hops ∷ big_bytes 2 o) t load (omega arith)) ht in
    let f4 : load_fault 6 octets ≡ None = loads (0xBF ∷ hops ∷ big_bytes 2 o ++ big_bytes 2 t) in
    let whole : mesh_fault octets ≡ None = rw (f1, at, f2, f3, f4) refl in
    not_empty octets (omega arith) ∙ ap (λ (d : ℕ). first_fault d octets) first ∙ is_mesh 0xBF octets (omega arith) (omega arith) ∙ whole

pub few_then : (hops : ℕ) (rest : List ℕ) → hops < 15 → hops_then hops rest ≡ (0xB0 + hops) ∷ rest
unfolding hops_then
few_then hops rest h = grind (arith, common_steps)

pub many_then : (hops : ℕ) (rest : List ℕ) → 15 ≤ hops → hops_then hops rest ≡ 0xBF ∷ hops ∷ rest
unfolding hops_then
many_then hops rest h = grind (arith, common_steps)

mesh_none : (mesh : Mesh) (load : List ℕ) → IsMesh mesh → ((front : List ℕ) → load_fault (length front) (front ++ load) ≡ None)
    → unit_fault (mesh_then mesh load) ≡ None
mesh_none mesh load h loads =
    elim (cases_lt mesh.hops 15) [
      | inl few ↦ ap unit_fault (few_then mesh.hops (big_bytes 2 mesh.origin ++ (big_bytes 2 mesh.to ++ load)) few)
          ∙ few_none mesh.hops mesh.origin mesh.to load few h.origin h.to loads
      | inr many ↦ ap unit_fault (many_then mesh.hops (big_bytes 2 mesh.origin ++ (big_bytes 2 mesh.to ++ load)) many)
          ∙ many_none mesh.hops mesh.origin mesh.to load many h.origin h.to loads
    ]

local_none : (code : ℕ) (body : List ℕ) → 0 < code → code ≤ 5 → unit_fault (0x40 ∷ code ∷ body) ≡ None
unfolding local_fault octet
local_none code body low high =
    let octets : List ℕ = 0x40 ∷ code ∷ body in
    let f1 : octet_fault 1 octets ≡ None = octet_none 1 octets (omega arith) in
    rw f1 (grind (arith, common_steps))

-- what is spelled has no fault
pub no_fault : (unit : Unit) → IsUnit unit → unit_fault (spelling unit) ≡ None
no_fault (Whole mesh octets) h = mesh_none mesh (0x41 ∷ octets) h.0 (λ front. whole_none front octets h.1 h.2)
no_fault (Part mesh piece) h = mesh_none mesh (piece_spelling piece) h.0 (λ front. piece_none front piece h.1)
no_fault (Carried mesh body) h = mesh_none mesh (0x40 ∷ 2 ∷ body) h (λ front. carried_none front body)
no_fault (Local code body) h = local_none code body h.0 h.1
