-- A spelling is of one unit.
use Rattle.std.proofs.Common.{◌≡◌, ℕ, ◌+◌, ◌/◌, ◌%◌, ◌<◌, ◌≤◌, List, ◌∷◌, ◌++◌, Some, None, Result, Ok, Err, sym, ap, ◌∙◌, arith, inl, inr}
use Rattle.std.specs.Prelude.{IfOk, MatchResult}
use Rattle.std.proofs.lemmas.Bool.{cases_lt}
use Rattle.byteorder.specs.Endian.{big_bytes}
use Rattle.plc_base.proofs.Places.{two_same}
use Rattle.plc_base.specs.declared.fields.Fault.{Fault}
use Rattle.mesh_header.specs.declared.fault.UnitFaultKind.{UnitFaultKind}
use Rattle.mesh_header.specs.declared.unit.Mesh.{Mesh}
use Rattle.mesh_header.specs.Pieces.{Placed, IsPiece}
use Rattle.mesh_header.specs.declared.unit.Unit.{Unit}
use Rattle.mesh_header.specs.declared.unit.Unit.TheVariants.{Whole, Part, Carried, Local}
use Rattle.mesh_header.specs.Grammar.{IsMesh, IsUnit, Spells, spelling, piece_spelling, hops_then, mesh_then}
use Rattle.mesh_header.specs.Faults.{unit_fault}
use Rattle.mesh_header.proofs.Spellings.{few_then, many_then, zero_spelling, some_spelling, no_fault}

data_is_no_command : (xs ys : List ℕ) → 0x41 ∷ xs ≡ 0x40 ∷ ys → ⊥
data_is_no_command xs ys e =
    let a : ℕ = 0x41 in
    let b : ℕ = 0x40 in
    let heads : a ≡ b = cc in
    omega (arith, heads)

hops_same : (h k : ℕ) (a b : List ℕ) → hops_then h a ≡ hops_then k b → (h ≡ k) × (a ≡ b)
hops_same h k a b e =
    elim (cases_lt h 15) [
      | inl few ↦ elim (cases_lt k 15) [
        | inl few' ↦
            let both : (0xB0 + h) ∷ a ≡ (0xB0 + k) ∷ b = sym (few_then h a few) ∙ e ∙ few_then k b few' in
            let heads : 0xB0 + h ≡ 0xB0 + k = cc in
            let tails : a ≡ b = cc in
            (omega arith, tails)
        | inr many' ↦
            let both : (0xB0 + h) ∷ a ≡ 0xBF ∷ k ∷ b = sym (few_then h a few) ∙ e ∙ many_then k b many' in
            let heads : 0xB0 + h ≡ 0xBF = cc in
            absurd (omega arith)
      ]
      | inr many ↦ elim (cases_lt k 15) [
        | inl few' ↦
            let both : 0xBF ∷ h ∷ a ≡ (0xB0 + k) ∷ b = sym (many_then h a many) ∙ e ∙ few_then k b few' in
            let heads : 0xBF ≡ 0xB0 + k = cc in
            absurd (omega arith)
        | inr many' ↦
            let both : 0xBF ∷ h ∷ a ≡ 0xBF ∷ k ∷ b = sym (many_then h a many) ∙ e ∙ many_then k b many' in
            let heads : h ≡ k = cc in
            let tails : a ≡ b = cc in
            (heads, tails)
      ]
    ]

hops_head : (h d : ℕ) (a rest : List ℕ) → hops_then h a ≡ d ∷ rest → 0xB0 ≤ d
hops_head h d a rest e =
    elim (cases_lt h 15) [
      | inl few ↦
          let both : (0xB0 + h) ∷ a ≡ d ∷ rest = sym (few_then h a few) ∙ e in
          let heads : 0xB0 + h ≡ d = cc in
          omega arith
      | inr many ↦
          let both : 0xBF ∷ h ∷ a ≡ d ∷ rest = sym (many_then h a many) ∙ e in
          let heads : 0xBF ≡ d = cc in
          omega arith
    ]

mesh_from : ℕ → ℕ → ℕ → Mesh
mesh_from h o t = record { hops = h; origin = o; to = t }

mesh_eq : (m n : Mesh) → m.hops ≡ n.hops → m.origin ≡ n.origin → m.to ≡ n.to → m ≡ n
unfolding mesh_from
mesh_eq m n h o t = ap (λ (x : ℕ). mesh_from x m.origin m.to) h ∙ ap (λ (x : ℕ). mesh_from n.hops x m.to) o ∙ ap (λ (x : ℕ). mesh_from n.hops n.origin x) t

mesh_same : (m n : Mesh) (a b : List ℕ) → IsMesh m → IsMesh n → mesh_then m a ≡ mesh_then n b → (m ≡ n) × (a ≡ b)
mesh_same m n a b hm hn e =
    let p = hops_same m.hops n.hops (big_bytes 2 m.origin ++ (big_bytes 2 m.to ++ a)) (big_bytes 2 n.origin ++ (big_bytes 2 n.to ++ b)) e in
    let q : big_bytes 2 m.origin ++ (big_bytes 2 m.to ++ a) ≡ big_bytes 2 n.origin ++ (big_bytes 2 n.to ++ b) = p.1 in
    let o = two_same m.origin n.origin (omega (arith, hm.origin)) (omega (arith, hn.origin)) (cc) (cc) in
    let t = two_same m.to n.to (omega (arith, hm.to)) (omega (arith, hn.to)) (cc) (cc) in
    let rest : a ≡ b = cc in
    (mesh_eq m n p.0 o t, rest)

piece_from : ℕ → ℕ → ℕ → List ℕ → Placed
piece_from s t o xs = record { size = s; tag = t; offset = o; octets = xs }

piece_eq : (p q : Placed) → p.size ≡ q.size → p.tag ≡ q.tag → p.offset ≡ q.offset → p.octets ≡ q.octets → p ≡ q
unfolding piece_from
piece_eq p q s t o xs =
    ap (λ (x : ℕ). piece_from x p.tag p.offset p.octets) s ∙ ap (λ (x : ℕ). piece_from q.size x p.offset p.octets) t
    ∙ ap (λ (x : ℕ). piece_from q.size q.tag x p.octets) o ∙ ap (λ (x : List ℕ). piece_from q.size q.tag q.offset x) xs

-- the two forms of a piece, by base and the fifth octet
form_same : (base s t d s' t' d' base' : ℕ) (xs ys : List ℕ) → base + s < 65536 → base' + s' < 65536 → t < 65536 → t' < 65536
    → big_bytes 2 (base + s) ++ (big_bytes 2 t ++ (d ∷ xs)) ≡ big_bytes 2 (base' + s') ++ (big_bytes 2 t' ++ (d' ∷ ys))
    → (base + s ≡ base' + s') × (t ≡ t') × (d ≡ d') × (xs ≡ ys)
form_same base s t d s' t' d' base' xs ys h1 h2 h3 h4 e =
    let es = two_same (base + s) (base' + s') h1 h2 (cc) (cc) in
    let et = two_same t t' h3 h4 (cc) (cc) in
    let ed : d ≡ d' = cc in
    let ex : xs ≡ ys = cc in
    (es, et, ed, ex)

piece_same : (p q : Placed) → IsPiece p → IsPiece q → piece_spelling p ≡ piece_spelling q → p ≡ q
piece_same p q hp hq e =
    elim (cases_lt 0 p.offset) [
      | inl some ↦ elim (cases_lt 0 q.offset) [
        | inl some' ↦
            let f = form_same 0xE000 p.size p.tag p.offset q.size q.tag q.offset 0xE000 p.octets q.octets (omega (arith, hp.size)) (omega (arith, hq.size))
            hp.tag hq.tag (sym (some_spelling p some) ∙ e ∙ some_spelling q some') in
            piece_eq p q (omega (arith, f.0)) f.1 f.2 f.3
        | inr none' ↦
            let z : q.offset ≡ 0 = omega arith in
            let f = form_same 0xE000 p.size p.tag p.offset q.size q.tag 0x41 0xC000 p.octets q.octets (omega (arith, hp.size)) (omega (arith, hq.size)) hp.tag
            hq.tag (sym (some_spelling p some) ∙ e ∙ zero_spelling q z) in
            absurd (omega (arith, f.0, hp.size, hq.size))
      ]
      | inr none ↦ let z : p.offset ≡ 0 = omega arith in elim (cases_lt 0 q.offset) [
        | inl some' ↦
            let f = form_same 0xC000 p.size p.tag 0x41 q.size q.tag q.offset 0xE000 p.octets q.octets (omega (arith, hp.size)) (omega (arith, hq.size)) hp.tag
            hq.tag (sym (zero_spelling p z) ∙ e ∙ some_spelling q some') in
            absurd (omega (arith, f.0, hp.size, hq.size))
        | inr none' ↦
            let z' : q.offset ≡ 0 = omega arith in
            let f = form_same 0xC000 p.size p.tag 0x41 q.size q.tag 0x41 0xC000 p.octets q.octets (omega (arith, hp.size)) (omega (arith, hq.size)) hp.tag
            hq.tag (sym (zero_spelling p z) ∙ e ∙ zero_spelling q z') in
            piece_eq p q (omega (arith, f.0)) f.1 (omega arith) f.3
      ]
    ]

piece_head : (p : Placed) (d : ℕ) (rest : List ℕ) → IsPiece p → piece_spelling p ≡ d ∷ rest → 0xC0 ≤ d
piece_head p d rest h e =
    elim (cases_lt 0 p.offset) [
      | inl some ↦
          let both : big_bytes 2 (0xE000 + p.size) ++ (big_bytes 2 p.tag ++ (p.offset ∷ p.octets)) ≡ d ∷ rest = sym (some_spelling p some) ∙ e in
          let heads : (0xE000 + p.size) / 256 % 256 ≡ d = cc in
          omega (arith, h.size)
      | inr none ↦
          let z : p.offset ≡ 0 = omega arith in
          let both : big_bytes 2 (0xC000 + p.size) ++ (big_bytes 2 p.tag ++ (0x41 ∷ p.octets)) ≡ d ∷ rest = sym (zero_spelling p z) ∙ e in
          let heads : (0xC000 + p.size) / 256 % 256 ≡ d = cc in
          omega (arith, h.size)
    ]

pub one_value : (a b : Unit) → IsUnit a → IsUnit b → spelling a ≡ spelling b → a ≡ b
one_value (Whole m xs) (Whole n ys) h k e = let s = mesh_same m n (0x41 ∷ xs) (0x41 ∷ ys) h.0 k.0 e in let same : xs ≡ ys = cc (s.1) in cc (s.0)
one_value (Part m p) (Part n q) h k e =
    let s = mesh_same m n (piece_spelling p) (piece_spelling q) h.0 k.0 e in let same : p ≡ q = piece_same p q h.1 k.1 s.1 in cc (s.0)
one_value (Carried m xs) (Carried n ys) h k e = let s = mesh_same m n (0x40 ∷ 2 ∷ xs) (0x40 ∷ 2 ∷ ys) h k e in let same : xs ≡ ys = cc (s.1) in cc (s.0)
one_value (Local c xs) (Local d ys) h k e = cc
one_value (Whole m xs) (Part n q) h k e =
    let s = mesh_same m n (0x41 ∷ xs) (piece_spelling q) h.0 k.0 e in absurd (omega (arith, piece_head q 0x41 xs k.1 (sym s.1)))
one_value (Part m p) (Whole n ys) h k e = let s = mesh_same m n (piece_spelling p) (0x41 ∷ ys) h.0 k.0 e in absurd (omega (arith, piece_head p 0x41 ys h.1 s.1))
one_value (Carried m xs) (Part n q) h k e =
    let s = mesh_same m n (0x40 ∷ 2 ∷ xs) (piece_spelling q) h k.0 e in absurd (omega (arith, piece_head q 0x40 (2 ∷ xs) k.1 (sym s.1)))
one_value (Part m p) (Carried n ys) h k e =
    let s = mesh_same m n (piece_spelling p) (0x40 ∷ 2 ∷ ys) h.0 k e in absurd (omega (arith, piece_head p 0x40 (2 ∷ ys) h.1 s.1))
one_value (Whole m xs) (Carried n ys) h k e = let s = mesh_same m n (0x41 ∷ xs) (0x40 ∷ 2 ∷ ys) h.0 k e in absurd (data_is_no_command xs (2 ∷ ys) s.1)
one_value (Carried m xs) (Whole n ys) h k e = let s = mesh_same m n (0x40 ∷ 2 ∷ xs) (0x41 ∷ ys) h k.0 e in absurd (data_is_no_command ys (2 ∷ xs) (sym s.1))
one_value (Local c xs) (Whole n ys) h k e = absurd (omega (arith, hops_head n.hops 0x40 _ (c ∷ xs) (sym e)))
one_value (Local c xs) (Part n q) h k e = absurd (omega (arith, hops_head n.hops 0x40 _ (c ∷ xs) (sym e)))
one_value (Local c xs) (Carried n ys) h k e = absurd (omega (arith, hops_head n.hops 0x40 _ (c ∷ xs) (sym e)))
one_value (Whole m xs) (Local d ys) h k e = absurd (omega (arith, hops_head m.hops 0x40 _ (d ∷ ys) e))
one_value (Part m p) (Local d ys) h k e = absurd (omega (arith, hops_head m.hops 0x40 _ (d ∷ ys) e))
one_value (Carried m xs) (Local d ys) h k e = absurd (omega (arith, hops_head m.hops 0x40 _ (d ∷ ys) e))

pub only_read : (octets : List ℕ) (r : Result Unit (Fault UnitFaultKind)) → IfOk r (λ u. Spells u octets)
    → MatchResult r (λ u. unit_fault octets ≡ None) (λ e. unit_fault octets ≡ Some e)
    → (unit : Unit) → Spells unit octets → r ≡ Ok unit
only_read octets (Ok u) found exact unit spells = ap Ok (one_value u unit found.0 spells.0 (sym found.1 ∙ spells.1))
only_read octets (Err e) found exact unit spells = let none = no_fault unit spells.0 in let same = ap unit_fault spells.1 in absurd cc
