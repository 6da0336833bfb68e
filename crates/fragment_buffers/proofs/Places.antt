-- Places of pieces: how many there can be, and what writing one makes of the pieces.
use Rattle.std.proofs.Common.{◌≡◌, ◌≢◌, ℕ, zero, suc, ◌+◌, ◌*◌, ◌<◌, ◌≤◌, ◌⊎◌, inl, inr, Bool, true, false, ◌&&◌, nat_lt, eqb, List, [], ◌∷◌, ◌++◌}
use Rattle.std.proofs.Common.{length, map, get_or, sym, ◌∙◌, arith, length-append}
use Rattle.std.proofs.lemmas.Bool.{or_parts, eqb-true}
use Rattle.std.proofs.lemmas.Bool.Decides.{nat_tests, Decides-eqb}
use Rattle.std.proofs.lemmas.List.{length-map, get_or-map}
use Rattle.std.proofs.lemmas.List.Elements.{All-head, All-tail, All-push}
use Rattle.std.proofs.lemmas.List.Quantifiers.{all_pairs_push}
use Rattle.std.proofs.lemmas.List.Folds.{Any-from_list_any}
use Rattle.std.proofs.lemmas.List.Sums.{sum_by-cons}
use Rattle.std.proofs.lemmas.Map.Steps.{length-le_from_distinct_below}
use Rattle.std.proofs.lemmas.Map.Made.{IsDistinct-from_AllPairs}
use Rattle.std.specs.List.{list_any, All, AllPairs, sum_by}
use Rattle.mesh_header.specs.Pieces.{Placed, IsPiece}
use Rattle.fragment_buffers.specs.declared.piece_span.PieceSpan.{PieceSpan}
use Rattle.fragment_buffers.specs.PieceIntake.{blocks}
use Rattle.fragment_buffers.specs.Entries.{Entry, IsEntry, IsPlace, place_of, meet, blocks_used}

pub piece_place : (piece : Placed) → IsPiece piece → IsPlace piece.size (place_of piece)
piece_place piece rule = record { some = rule.some; within = rule.within; eighths = rule.eighths }

pub none_passes : {X : Type 0} (t : X → Bool) (xs : List X) → list_any t xs ≡ false → (k : ℕ) (d : X) → k < length xs → t (get_or xs k d) ≡ false
none_passes t [] h k d lt = absurd (omega arith)
none_passes t (x ∷ xs) h zero d lt = (or_parts (t x) (list_any t xs) h).0
none_passes t (x ∷ xs) h (suc k) d lt = none_passes t xs (or_parts (t x) (list_any t xs) h).1 k d (omega arith)

-- # How many

meet_flips : (p q : PieceSpan) → meet p q ≡ false → meet q p ≡ false
meet_flips p q h = grind (arith, nat_tests)

meet_parts : (a m b n : ℕ) → (nat_lt b (a + m) && nat_lt a (b + n)) ≡ false → 0 < m → 0 < n → (b + n ≤ a) ⊎ (a + m ≤ b)
meet_parts a m b n h pm pn = grind (arith, nat_tests)

pub apart_parts : (p q : PieceSpan) → meet p q ≡ false → 0 < p.length → 0 < q.length
    → (q.offset * 8 + q.length ≤ p.offset * 8) ⊎ (p.offset * 8 + p.length ≤ q.offset * 8)
apart_parts p q h pm pn = meet_parts (p.offset * 8) p.length (q.offset * 8) q.length h pm pn

apart_offsets : (size : ℕ) (p q : PieceSpan) → IsPlace size p → IsPlace size q → meet p q ≡ false → p.offset ≢ q.offset
apart_offsets size p q ip iq h = λ e. elim (apart_parts p q h ip.some iq.some) [
  | inl before ↦ omega (arith, iq.some)
  | inr after ↦ omega (arith, ip.some)
]

pub apart_push : (ps : List PieceSpan) (p : PieceSpan) → AllPairs (λ p q. meet p q ≡ false) ps → list_any (meet p) ps ≡ false
    → AllPairs (λ p q. meet p q ≡ false) (ps ++ p ∷ [])
apart_push ps p apart none = all_pairs_push (λ p q. meet p q ≡ false) ps p apart (λ k d lt. meet_flips p (get_or ps k d) (none_passes (meet p) ps none k d lt))

-- all places of pieces begin at units of their own, of which a datagram has at most n
at_most : (size n : ℕ) (ps : List PieceSpan) → size ≤ n * 8 → All (IsPlace size) ps → AllPairs (λ p q. meet p q ≡ false) ps → length ps ≤ n
at_most size n ps le places apart =
    let offsets : List ℕ = map (λ p. p.offset) ps in
    let long : length offsets ≡ length ps = length-map ps (λ p. p.offset) in
    let differ : AllPairs (λ x y. x ≢ y) offsets = λ i j d lt lj.
    let p : PieceSpan = get_or ps i (record { offset = d; length = 0 }) in
    let q : PieceSpan = get_or ps j (record { offset = d; length = 0 }) in
    let ne : p.offset ≢ q.offset = apart_offsets size p q (places i _ (omega (arith, long))) (places j _ (omega (arith, long)))
    (apart i j _ lt (omega (arith, long))) in
    λ e. ne (sym (get_or-map (λ p. p.offset) ps i (record { offset = d; length = 0 }) d (omega (arith, long))) ∙ e
    ∙ get_or-map (λ p. p.offset) ps j (record { offset = d; length = 0 }) d (omega (arith, long))) in
    let below : (q : ℕ) → list_any (eqb q) offsets ≡ true → q < n = λ q found.
    let any = Any-from_list_any (eqb q) offsets found in
    let p : PieceSpan = get_or ps any.0 (record { offset = any.1; length = 0 }) in
    let is : p.offset ≡ get_or offsets any.0 any.1 = sym
    (get_or-map (λ p. p.offset) ps any.0 (record { offset = any.1; length = 0 }) any.1 (omega (arith, long, any.2))) in
    let place : IsPlace size p = places any.0 _ (omega (arith, long, any.2)) in
    omega (arith, le, is, any.3, eqb-true q any.1 any.4, place.some, place.within) in
    omega (arith, long, length-le_from_distinct_below offsets n (IsDistinct-from_AllPairs Decides-eqb offsets differ) below)

pub room_for_one : (size n : ℕ) (ps : List PieceSpan) (p : PieceSpan) → size ≤ n * 8 → All (IsPlace size) ps → AllPairs (λ p q. meet p q ≡ false) ps
    → IsPlace size p → list_any (meet p) ps ≡ false → length ps < n
room_for_one size n ps p le places apart place none =
    omega (arith, length-append ps (p ∷ []), at_most size n (ps ++ p ∷ []) le (All-push (IsPlace size) ps p places place) (apart_push ps p apart none))

-- the pieces of a datagram are no more than the units of its blocks
few_pieces : (e : Entry) → IsEntry e → length e.places ≤ 8 * blocks e.size
few_pieces e rule = at_most e.size (8 * blocks e.size) e.places (omega arith) rule.places rule.apart

pub one_more : (e : Entry) (p : PieceSpan) → IsEntry e → IsPlace e.size p → list_any (meet p) e.places ≡ false → length e.places < 8 * blocks e.size
one_more e p rule place none = room_for_one e.size (8 * blocks e.size) e.places p (omega arith) rule.places rule.apart place none

-- those of all entries, where one has room for one more
all_few : (es : List Entry) → All IsEntry es → sum_by (λ (e : Entry). length e.places) es ≤ 8 * blocks_used es
all_few [] rules = omega arith
all_few (e ∷ es) rules =
    let here = few_pieces e (All-head IsEntry e es rules) in
    let rest = all_few es (All-tail IsEntry e es rules) in
    omega (arith, here, rest, sum_by-cons (λ (e : Entry). length e.places) e es, sum_by-cons (λ (e : Entry). blocks e.size) e es)

pub room_in_all : (es : List Entry) (i : ℕ) (d : Entry) → All IsEntry es → i < length es → length (get_or es i d).places < 8 * blocks (get_or es i d).size
    → sum_by (λ (e : Entry). length e.places) es < 8 * blocks_used es
room_in_all [] i d rules lt more = absurd (omega arith)
room_in_all (e ∷ es) zero d rules lt more =
    let rest = all_few es (All-tail IsEntry e es rules) in
    omega (arith, more, rest, sum_by-cons (λ (e : Entry). length e.places) e es, sum_by-cons (λ (e : Entry). blocks e.size) e es)
room_in_all (e ∷ es) (suc i) d rules lt more =
    let here = few_pieces e (All-head IsEntry e es rules) in
    let rest = room_in_all es i d (All-tail IsEntry e es rules) (omega arith) more in
    omega (arith, here, rest, sum_by-cons (λ (e : Entry). length e.places) e es, sum_by-cons (λ (e : Entry). blocks e.size) e es)
