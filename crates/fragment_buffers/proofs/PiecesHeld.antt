-- The pieces that an entry has in its chain.
use Rattle.std.proofs.Common.{◌≡◌, ℕ, zero, suc, ◌+◌, ◌-◌, ◌*◌, ◌<◌, ◌≤◌, inl, inr, Bool, true, false, ◌&&◌, ◌||◌, ◌==◌, nat_lt, nat_le, cond, List, [], ◌∷◌}
use Rattle.std.proofs.Common.{◌++◌, length, map, get_or, take, drop, Option, Some, None, refl, sym, ap, subst, ◌∙◌, arith, drop-cons}
use Rattle.std.proofs.lemmas.Bool.{cases_Bool, cases_eq, or_parts, and_parts, cond-true, leb-true, ltb-true, ltb-false}
use Rattle.std.proofs.lemmas.Bool.Decides.{nat_tests}
use Rattle.std.proofs.lemmas.Option.{slice_get-get_or}
use Rattle.std.proofs.lemmas.List.{map-append, take_all}
use Rattle.std.proofs.lemmas.List.Elements.{All-head, All-tail}
use Rattle.std.specs.List.{list_any, slice_get, slice_range, All}
use Rattle.mesh_header.specs.Pieces.{Placed, IsPiece}
use Rattle.block_pool.specs.Pool.{PoolState, chain_octets, overwrite}
use Rattle.fragment_buffers.specs.declared.piece_span.PieceSpan.{PieceSpan}
use Rattle.fragment_buffers.specs.Reassembly.{PlacedPiece, placed, overlap, overlaps, repeats, octet_of, octet_at, first_of, before_all, gathered, datagram_of}
use Rattle.fragment_buffers.specs.Entries.{Entry, IsEntry, IsPlace, IsCovered, HasGap, place_of, same_place, meet, covers, piece_in, reassembly_in}
use Rattle.fragment_buffers.proofs.Octets.{length-slice, slice_apart, slice_written, get-slice, get-past, list_any-map, map_same}
use Rattle.fragment_buffers.proofs.Places.{none_passes, apart_parts}

-- # Tests on places are tests on pieces

pub overlaps_in : (os : List ℕ) (ps : List PieceSpan) (piece : Placed) → All (IsPlace (length os)) ps
    → overlaps (map (piece_in os) ps) (placed piece) ≡ list_any (meet (place_of piece)) ps
overlaps_in os ps piece places =
    list_any-map (overlap (placed piece)) (meet (place_of piece)) (piece_in os) ps (λ k d lt.
    let q : PieceSpan = get_or ps k d in
    ap (λ n. nat_lt (q.offset * 8) (piece.offset * 8 + length piece.octets) && nat_lt (piece.offset * 8) (q.offset * 8 + n))
    (length-slice os (q.offset * 8) q.length (places k d lt).within))

same_units : (a b m n : ℕ) → ((a * 8 == b * 8) && (m == n)) ≡ ((a == b) && (m == n))
same_units a b m n = grind (arith, nat_tests)

pub repeats_in : (os : List ℕ) (ps : List PieceSpan) (piece : Placed) → All (IsPlace (length os)) ps
    → repeats (map (piece_in os) ps) (placed piece) ≡ list_any (same_place (place_of piece)) ps
repeats_in os ps piece places =
    list_any-map (λ q. (q.start == piece.offset * 8) && (length q.octets == length piece.octets)) (same_place (place_of piece)) (piece_in os) ps (λ k d lt.
    let q : PieceSpan = get_or ps k d in
    ap (λ n. (q.offset * 8 == piece.offset * 8) && (n == length piece.octets)) (length-slice os (q.offset * 8) q.length (places k d lt).within)
    ∙ same_units q.offset piece.offset q.length (length piece.octets))

-- # A piece that is written

pub written_in : (os : List ℕ) (ps : List PieceSpan) (piece : Placed) → IsPiece piece → length os ≡ piece.size → All (IsPlace (length os)) ps
    → list_any (meet (place_of piece)) ps ≡ false
    → map (piece_in (overwrite os (piece.offset * 8) piece.octets)) (ps ++ place_of piece ∷ []) ≡ map (piece_in os) ps ++ placed piece ∷ []
written_in os ps piece rule long places none =
    let new : List ℕ = overwrite os (piece.offset * 8) piece.octets in
    let fits : piece.offset * 8 + length piece.octets ≤ length os = omega (arith, rule.within) in
    let old : map (piece_in new) ps ≡ map (piece_in os) ps = map_same (piece_in new) (piece_in os) ps (λ k d lt.
    let q : PieceSpan = get_or ps k d in
    ap (λ octets. record { start = q.offset * 8; octets = octets })
    (slice_apart os (piece.offset * 8) piece.octets (q.offset * 8) q.length (places k d lt).within fits
    (apart_parts (place_of piece) q (none_passes (meet (place_of piece)) ps none k d lt) rule.some (places k d lt).some))) in
    map-append (piece_in new) ps (place_of piece ∷ []) ∙ ap (λ xs. xs ++ piece_in new (place_of piece) ∷ []) old
    ∙ ap (λ octets. map (piece_in os) ps ++ record { start = piece.offset * 8; octets = octets } ∷ []) (slice_written os (piece.offset * 8) piece.octets fits)

-- # The octets at a position

octet_in : (os : List ℕ) (q : PieceSpan) (i : ℕ) → IsPlace (length os) q → covers i q ≡ true → octet_of (piece_in os q) i ≡ slice_get os i
octet_in os q i place h =
    let parts = and_parts _ _ h in
    cond-true (nat_le (q.offset * 8) i) _ _ parts.0 ∙ get-slice os i (q.offset * 8) q.length (leb-true _ _ parts.0) (ltb-true _ _ parts.1) place.within

late_out : (os : List ℕ) (a n i : ℕ) (b : Bool) → nat_le a i ≡ b → (b && nat_lt i (a + n)) ≡ false
    → cond b (slice_get (slice_range os a (a + n)) (i - a)) None ≡ None
late_out os a n i false e h = refl
late_out os a n i true e h = get-past os a n (i - a) (omega (arith, ltb-false _ _ h, leb-true _ _ e))

octet_out : (os : List ℕ) (q : PieceSpan) (i : ℕ) → covers i q ≡ false → octet_of (piece_in os q) i ≡ None
octet_out os q i h = late_out os (q.offset * 8) q.length i _ refl h

pub first_some : (o rest : Option ℕ) (x : ℕ) → o ≡ Some x → first_of o rest ≡ Some x
first_some None rest x e = cc
first_some (Some y) rest x e = e

pub first_none : (o rest : Option ℕ) → o ≡ None → first_of o rest ≡ rest
first_none None rest e = refl
first_none (Some y) rest e = cc

octet_covered : (os : List ℕ) (ps : List PieceSpan) (i : ℕ) → All (IsPlace (length os)) ps → i < length os → list_any (covers i) ps ≡ true
    → octet_at (map (piece_in os) ps) i ≡ slice_get os i
octet_covered os [] i places lt h = cc
octet_covered os (q ∷ qs) i places lt h =
    let rest : Option ℕ = octet_at (map (piece_in os) qs) i in
    elim (cases_Bool (covers i q)) [
      | inl here ↦
          let read = slice_get-get_or os i 0 lt in
          first_some _ rest (get_or os i 0) (octet_in os q i (All-head (IsPlace (length os)) q qs places) here ∙ read) ∙ sym read
      | inr not_here ↦
          first_none _ rest (octet_out os q i not_here)
          ∙ octet_covered os qs i (All-tail (IsPlace (length os)) q qs places) lt (sym (ap (λ b. b || list_any (covers i) qs) not_here) ∙ h)
    ]

octet_uncovered : (os : List ℕ) (ps : List PieceSpan) (i : ℕ) → list_any (covers i) ps ≡ false → octet_at (map (piece_in os) ps) i ≡ None
octet_uncovered os [] i h = refl
octet_uncovered os (q ∷ qs) i h =
    let parts = or_parts (covers i q) (list_any (covers i) qs) h in
    first_none _ _ (octet_out os q i parts.0) ∙ octet_uncovered os qs i parts.1

-- # The datagram

pub gathered_all : (os : List ℕ) (ps : List PlacedPiece) (from count : ℕ) → from + count ≤ length os
    → ((i : ℕ) → from ≤ i → i < from + count → octet_at ps i ≡ slice_get os i)
    → gathered ps from count ≡ Some (take count (drop from os))
gathered_all os ps from zero le reads = refl
gathered_all os ps from (suc count) le reads =
    let here : octet_at ps from ≡ Some (get_or os from 0) = reads from (omega arith) (omega arith) ∙ slice_get-get_or os from 0 (omega arith) in
    let rest : gathered ps (suc from) count
    ≡ Some (take count (drop (suc from) os)) = gathered_all os ps (suc from) count (omega arith) (λ i li lt. reads i (omega arith) (omega arith)) in
    ap (λ o. before_all o (gathered ps (suc from) count)) here ∙ ap (λ o. before_all (Some (get_or os from 0)) o) rest
    ∙ ap (λ xs. Some (take (suc count) xs)) (sym (drop-cons os from 0 (omega arith)))

before_none : (o : Option ℕ) → before_all o None ≡ None
before_none None = refl
before_none (Some x) = refl

pub gathered_gap : (ps : List PlacedPiece) (from count i : ℕ) → from ≤ i → i < from + count → octet_at ps i ≡ None → gathered ps from count ≡ None
gathered_gap ps from zero i le lt none = absurd (omega arith)
gathered_gap ps from (suc count) i le lt none = elim (cases_eq i from) [
  | inl same ↦ ap (λ o. before_all o (gathered ps (suc from) count)) (sym (ap (octet_at ps) same) ∙ none)
  | inr ne ↦ ap (before_all (octet_at ps from)) (gathered_gap ps (suc from) count i (omega arith) (omega arith) none) ∙ before_none (octet_at ps from)
]

-- an entry with no gap is the octets of its chain
pub datagram_covered : (pool : PoolState) (e : Entry) → IsEntry e → length (chain_octets pool e.chain) ≡ e.size → IsCovered e
    → datagram_of (reassembly_in pool e) ≡ Some (chain_octets pool e.chain)
unfolding datagram_of
datagram_covered pool e rule long covered =
    let os : List ℕ = chain_octets pool e.chain in
    let places : All (IsPlace (length os)) e.places = subst (λ n. All (IsPlace n) e.places) (sym long) rule.places in
    gathered_all os (map (piece_in os) e.places) 0 e.size (omega (arith, long))
    (λ i le lt. octet_covered os e.places i places (omega (arith, long)) (covered i (omega arith)))
    ∙ ap Some (take_all e.size os (omega (arith, long)))

pub datagram_gap : (pool : PoolState) (e : Entry) → HasGap e → datagram_of (reassembly_in pool e) ≡ None
unfolding datagram_of
datagram_gap pool e gap =
    let os : List ℕ = chain_octets pool e.chain in
    gathered_gap (map (piece_in os) e.places) 0 e.size gap.0 (omega arith) (omega (arith, gap.1)) (octet_uncovered os e.places gap.0 gap.2)
