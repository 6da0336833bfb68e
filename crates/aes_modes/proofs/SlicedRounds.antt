-- Sums, doubles and rounds of octets that lie across eight words.
use Rattle.std.proofs.Common.{◌≡◌, ℕ, zero, suc, ◌+◌, ◌*◌, ◌/◌, ◌%◌, ◌<◌, List, [], ◌∷◌, map, get_or, length, bit_xor, refl, sym, ap, ◌∙◌, arith}
use Rattle.std.specs.Int.{bit_at}
use Rattle.std.specs.List.{range_with_len}
use Rattle.std.specs.Int.Bits.{xor_assoc}
use Rattle.std.proofs.lemmas.Nat.{xor_shr, xor_mod}
use Rattle.std.proofs.lemmas.Nat.Bits.{bit_at-lt}
use lib.Lanes.{zip2, Each1}
use Rattle.aes_modes.specs.Field.{product, s_box}
use Rattle.aes_modes.specs.Cipher.{round, last_round}
use Rattle.aes_modes.specs.Sliced.{octet, lane, octet_at, state, shifted_from, mixed_octet}
use Rattle.aes_modes.proofs.LookUps.{at}
use Rattle.aes_modes.proofs.Lanes.{both_xor}
use Rattle.aes_modes.proofs.Rounds.{swapped, turn0, turn1, turn2, turn3}
use Rattle.aes_modes.proofs.Written.{spelled}

-- # Sums

xor_cat : (x y a b : ℕ) → x < 2 → y < 2 → bit_xor x y + 2 * bit_xor a b ≡ bit_xor (x + 2 * a) (y + 2 * b)
xor_cat x y a b lx ly =
    let m1 : (x + 2 * a) % 2 ≡ x = omega arith in
    let m2 : (y + 2 * b) % 2 ≡ y = omega arith in
    let d1 : (x + 2 * a) / 2 ≡ a = omega arith in
    let d2 : (y + 2 * b) / 2 ≡ b = omega arith in
    let h1 : bit_xor (x + 2 * a) (y + 2 * b) % 2 ≡ bit_xor x y = xor_mod (x + 2 * a) (y + 2 * b) 1 ∙ (λ i. bit_xor (m1 i) (m2 i)) in
    let h2 : bit_xor (x + 2 * a) (y + 2 * b) / 2 ≡ bit_xor a b = xor_shr (x + 2 * a) (y + 2 * b) 1 ∙ (λ i. bit_xor (d1 i) (d2 i)) in
    omega (arith, h1, h2)

abbrev Bits : List ℕ → Type 0
Bits xs = Each1 (λ (x : ℕ). x < 2) xs

lane_bits : (p : ℕ) (ws : List ℕ) → Bits (lane p ws)
lane_bits p [] = tt
lane_bits p (w ∷ ws) = (bit_at-lt w p, lane_bits p ws)

lane_zip : (p : ℕ) (us vs : List ℕ) → lane p (zip2 bit_xor us vs) ≡ zip2 bit_xor (lane p us) (lane p vs)
lane_zip p [] vs = refl
lane_zip p (a ∷ us) [] = refl
lane_zip p (a ∷ us) (b ∷ vs) = λ i. both_xor p a b refl refl i ∷ lane_zip p us vs i

octet_zip : (xs ys : List ℕ) → length xs ≡ length ys → Bits xs → Bits ys → octet (zip2 bit_xor xs ys) ≡ bit_xor (octet xs) (octet ys)
octet_zip [] [] e bx by = refl
octet_zip [] (y ∷ ys) e bx by = absurd (omega arith)
octet_zip (x ∷ xs) [] e bx by = absurd (omega arith)
octet_zip (x ∷ xs) (y ∷ ys) e (p, ps) (q, qs) =
    (λ i. bit_xor x y + 2 * octet_zip xs ys (omega arith) ps qs i) ∙ xor_cat x y (octet xs) (octet ys) p q

length_lane : (p : ℕ) (ws : List ℕ) → length (lane p ws) ≡ length ws
length_lane p [] = refl
length_lane p (w ∷ ws) = ap suc (length_lane p ws)

pub sum_at : (us vs : List ℕ) (p : ℕ) → length us ≡ length vs → octet_at (zip2 bit_xor us vs) p ≡ bit_xor (octet_at us p) (octet_at vs p)
sum_at us vs p e =
    ap octet (lane_zip p us vs)
    ∙ octet_zip (lane p us) (lane p vs) (length_lane p us ∙ e ∙ sym (length_lane p vs)) (lane_bits p us) (lane_bits p vs)

pub added_at : (q k : List ℕ) (p : ℕ) → length q ≡ 8 → length k ≡ 8
    → octet_at (bit_xor (get_or q 0 0) (get_or k 0 0) ∷ bit_xor (get_or q 1 0) (get_or k 1 0) ∷ bit_xor (get_or q 2 0) (get_or k 2 0)
    ∷ bit_xor (get_or q 3 0) (get_or k 3 0) ∷ bit_xor (get_or q 4 0) (get_or k 4 0) ∷ bit_xor (get_or q 5 0) (get_or k 5 0)
    ∷ bit_xor (get_or q 6 0) (get_or k 6 0) ∷ bit_xor (get_or q 7 0) (get_or k 7 0) ∷ []) p ≡ bit_xor (octet_at q p) (octet_at k p)
added_at q k p lq lk =
    (λ i. octet_at (zip2 bit_xor (spelled 8 q lq i) (spelled 8 k lk i)) p) ∙ sum_at q k p (lq ∙ sym lk)

-- # Doubles

abbrev pub double : List ℕ → List ℕ
double (x0 ∷ x1 ∷ x2 ∷ x3 ∷ x4 ∷ x5 ∷ x6 ∷ x7 ∷ []) = x7 ∷ bit_xor x0 x7 ∷ x1 ∷ bit_xor x2 x7 ∷ bit_xor x3 x7 ∷ x4 ∷ x5 ∷ x6 ∷ []
double _ = []

abbrev spread : ℕ → List ℕ
spread b = bit_at b 0 ∷ bit_at b 1 ∷ bit_at b 2 ∷ bit_at b 3 ∷ bit_at b 4 ∷ bit_at b 5 ∷ bit_at b 6 ∷ bit_at b 7 ∷ []

all_doubles : map (λ (b : ℕ). octet (double (spread b))) (range_with_len 0 256) ≡ map (λ (b : ℕ). product 2 b) (range_with_len 0 256)
unfolding product
all_doubles = refl

all_thirds : map (λ (b : ℕ). bit_xor (product 2 b) b) (range_with_len 0 256) ≡ map (λ (b : ℕ). product 3 b) (range_with_len 0 256)
unfolding product
all_thirds = refl

double_is : (x0 x1 x2 x3 x4 x5 x6 x7 : ℕ) → x0 < 2 → x1 < 2 → x2 < 2 → x3 < 2 → x4 < 2 → x5 < 2 → x6 < 2 → x7 < 2 → octet (double (x0 ∷ x1 ∷ x2
    ∷ x3 ∷ x4 ∷ x5 ∷ x6 ∷ x7 ∷ [])) ≡ product 2 (octet (x0 ∷ x1 ∷ x2 ∷ x3 ∷ x4 ∷ x5 ∷ x6 ∷ x7 ∷ []))
double_is x0 x1 x2 x3 x4 x5 x6 x7 p0 p1 p2 p3 p4 p5 p6 p7 =
    let b = octet (x0 ∷ x1 ∷ x2 ∷ x3 ∷ x4 ∷ x5 ∷ x6 ∷ x7 ∷ []) in
    let q0 : x0 ≡ bit_at b 0 = omega arith in
    let q1 : x1 ≡ bit_at b 1 = omega arith in
    let q2 : x2 ≡ bit_at b 2 = omega arith in
    let q3 : x3 ≡ bit_at b 3 = omega arith in
    let q4 : x4 ≡ bit_at b 4 = omega arith in
    let q5 : x5 ≡ bit_at b 5 = omega arith in
    let q6 : x6 ≡ bit_at b 6 = omega arith in
    let q7 : x7 ≡ bit_at b 7 = omega arith in
    (λ i. octet (double (q0 i ∷ q1 i ∷ q2 i ∷ q3 i ∷ q4 i ∷ q5 i ∷ q6 i ∷ q7 i ∷ [])))
    ∙ at (λ (b : ℕ). octet (double (spread b))) (λ (b : ℕ). product 2 b) all_doubles b (omega arith)

xor_bit : (x y : ℕ) → x < 2 → y < 2 → bit_xor x y < 2
xor_bit zero zero p q = omega arith
xor_bit zero (suc zero) p q = omega arith
xor_bit (suc zero) zero p q = omega arith
xor_bit (suc zero) (suc zero) p q = omega arith
xor_bit (suc (suc x)) y p q = absurd (omega arith)
xor_bit zero (suc (suc y)) p q = absurd (omega arith)
xor_bit (suc zero) (suc (suc y)) p q = absurd (omega arith)

sum8 : (x0 x1 x2 x3 x4 x5 x6 x7 y0 y1 y2 y3 y4 y5 y6 y7 : ℕ) → x0 < 2 → x1 < 2 → x2 < 2 → x3 < 2 → x4 < 2 → x5 < 2 → x6 < 2 → x7 < 2 → y0 < 2
    → y1 < 2 → y2 < 2 → y3 < 2 → y4 < 2 → y5 < 2 → y6 < 2 → y7 < 2
    → octet (double (bit_xor x0 y0 ∷ bit_xor x1 y1 ∷ bit_xor x2 y2 ∷ bit_xor x3 y3 ∷ bit_xor x4 y4 ∷ bit_xor x5 y5 ∷ bit_xor x6 y6 ∷ bit_xor x7 y7
    ∷ [])) ≡ bit_xor (product 2 (octet (x0 ∷ x1 ∷ x2 ∷ x3 ∷ x4 ∷ x5 ∷ x6 ∷ x7 ∷ []))) (product 2 (octet (y0 ∷ y1 ∷ y2 ∷ y3 ∷ y4 ∷ y5 ∷ y6 ∷ y7 ∷ [])))
sum8 x0 x1 x2 x3 x4 x5 x6 x7 y0 y1 y2 y3 y4 y5 y6 y7 p0 p1 p2 p3 p4 p5 p6 p7 r0 r1 r2 r3 r4 r5 r6 r7 =
    let apart : double (bit_xor x0 y0 ∷ bit_xor x1 y1 ∷ bit_xor x2 y2 ∷ bit_xor x3 y3 ∷ bit_xor x4 y4 ∷ bit_xor x5 y5 ∷ bit_xor x6 y6
    ∷ bit_xor x7 y7 ∷ []) ≡ zip2 bit_xor (double (x0 ∷ x1 ∷ x2 ∷ x3 ∷ x4 ∷ x5 ∷ x6 ∷ x7 ∷ [])) (double (y0 ∷ y1 ∷ y2 ∷ y3 ∷ y4 ∷ y5 ∷ y6 ∷ y7 ∷ [])) =
    λ i. bit_xor x7 y7 ∷ swapped x0 y0 x7 y7 i ∷ bit_xor x1 y1 ∷ swapped x2 y2 x7 y7 i ∷ swapped x3 y3 x7 y7 i ∷ bit_xor x4 y4 ∷ bit_xor x5 y5
    ∷ bit_xor x6 y6 ∷ [] in
    ap octet apart
    ∙ octet_zip (double (x0 ∷ x1 ∷ x2 ∷ x3 ∷ x4 ∷ x5 ∷ x6 ∷ x7 ∷ [])) (double (y0 ∷ y1 ∷ y2 ∷ y3 ∷ y4 ∷ y5 ∷ y6 ∷ y7 ∷ [])) refl
    (p7, (xor_bit x0 x7 p0 p7, (p1, (xor_bit x2 x7 p2 p7, (xor_bit x3 x7 p3 p7, (p4, (p5, (p6, tt))))))))
    (r7, (xor_bit y0 y7 r0 r7, (r1, (xor_bit y2 y7 r2 r7, (xor_bit y3 y7 r3 r7, (r4, (r5, (r6, tt))))))))
    ∙ (λ i. bit_xor (double_is x0 x1 x2 x3 x4 x5 x6 x7 p0 p1 p2 p3 p4 p5 p6 p7 i) (double_is y0 y1 y2 y3 y4 y5 y6 y7 r0 r1 r2 r3 r4 r5 r6 r7 i))

-- the words of MixColumns: q, those of the row after it, and the sums of those of the two rows after that
pub mixed_at : (q0 q1 q2 q3 q4 q5 q6 q7 r0 r1 r2 r3 r4 r5 r6 r7 u0 u1 u2 u3 u4 u5 u6 u7 p a b c d : ℕ)
    → octet_at (q0 ∷ q1 ∷ q2 ∷ q3 ∷ q4 ∷ q5 ∷ q6 ∷ q7 ∷ []) p ≡ a → octet_at (r0 ∷ r1 ∷ r2 ∷ r3 ∷ r4 ∷ r5 ∷ r6 ∷ r7 ∷ []) p ≡ b → octet_at (u0 ∷ u1
    ∷ u2 ∷ u3 ∷ u4 ∷ u5 ∷ u6 ∷ u7 ∷ []) p ≡ bit_xor c d
    → a < 256 → b < 256
    → octet_at (bit_xor (bit_xor (bit_xor q7 r7) r0) u0 ∷ bit_xor (bit_xor (bit_xor (bit_xor q0 r0) (bit_xor q7 r7)) r1) u1
    ∷ bit_xor (bit_xor (bit_xor q1 r1) r2) u2 ∷ bit_xor (bit_xor (bit_xor (bit_xor q2 r2) (bit_xor q7 r7)) r3) u3
    ∷ bit_xor (bit_xor (bit_xor (bit_xor q3 r3) (bit_xor q7 r7)) r4) u4 ∷ bit_xor (bit_xor (bit_xor q4 r4) r5) u5
    ∷ bit_xor (bit_xor (bit_xor q5 r5) r6) u6 ∷ bit_xor (bit_xor (bit_xor q6 r6) r7) u7 ∷ []) p ≡ mixed_octet a b c d
mixed_at q0 q1 q2 q3 q4 q5 q6 q7 r0 r1 r2 r3 r4 r5 r6 r7 u0 u1 u2 u3 u4 u5 u6 u7 p a b c d ea eb ecd la lb =
    let ts : List ℕ = bit_xor q0 r0 ∷ bit_xor q1 r1 ∷ bit_xor q2 r2 ∷ bit_xor q3 r3 ∷ bit_xor q4 r4 ∷ bit_xor q5 r5 ∷ bit_xor q6 r6 ∷ bit_xor q7 r7 ∷ [] in
    let lanes : lane p (double ts) ≡ double (bit_xor (bit_at q0 p) (bit_at r0 p) ∷ bit_xor (bit_at q1 p) (bit_at r1 p)
    ∷ bit_xor (bit_at q2 p) (bit_at r2 p) ∷ bit_xor (bit_at q3 p) (bit_at r3 p) ∷ bit_xor (bit_at q4 p) (bit_at r4 p)
    ∷ bit_xor (bit_at q5 p) (bit_at r5 p) ∷ bit_xor (bit_at q6 p) (bit_at r6 p) ∷ bit_xor (bit_at q7 p) (bit_at r7 p)
    ∷ []) = λ i. (both_xor p q7 r7 refl refl) i ∷ both_xor p (bit_xor q0 r0) (bit_xor q7 r7) (both_xor p q0 r0 refl refl) (both_xor p q7 r7 refl
    refl) i ∷ both_xor p q1 r1 refl refl i ∷ both_xor p (bit_xor q2 r2) (bit_xor q7 r7) (both_xor p q2 r2 refl refl) (both_xor p q7 r7 refl refl) i
    ∷ both_xor p (bit_xor q3 r3) (bit_xor q7 r7) (both_xor p q3 r3 refl refl) (both_xor p q7 r7 refl refl) i ∷ both_xor p q4 r4 refl refl i
    ∷ both_xor p q5 r5 refl refl i ∷ both_xor p q6 r6 refl refl i ∷ [] in
    let e2 : octet_at (double ts) p ≡ bit_xor (product 2 (octet_at (q0 ∷ q1 ∷ q2 ∷ q3 ∷ q4 ∷ q5 ∷ q6 ∷ q7 ∷ []) p)) (product 2 (octet_at (r0 ∷ r1
    ∷ r2 ∷ r3 ∷ r4 ∷ r5 ∷ r6 ∷ r7 ∷ []) p)) =
    ap octet lanes ∙ sum8 (bit_at q0 p) (bit_at q1 p) (bit_at q2 p) (bit_at q3 p) (bit_at q4 p) (bit_at q5 p) (bit_at q6 p) (bit_at q7 p) (bit_at r0
    p) (bit_at r1 p) (bit_at r2 p) (bit_at r3 p) (bit_at r4 p) (bit_at r5 p) (bit_at r6 p) (bit_at r7 p) (bit_at-lt q0 p) (bit_at-lt q1 p) (bit_at-lt
    q2 p) (bit_at-lt q3 p) (bit_at-lt q4 p) (bit_at-lt q5 p) (bit_at-lt q6 p) (bit_at-lt q7 p) (bit_at-lt r0 p) (bit_at-lt r1 p) (bit_at-lt r2 p)
    (bit_at-lt r3 p) (bit_at-lt r4 p) (bit_at-lt r5 p) (bit_at-lt r6 p) (bit_at-lt r7 p) in
    sum_at (zip2 bit_xor (double ts) (r0 ∷ r1 ∷ r2 ∷ r3 ∷ r4 ∷ r5 ∷ r6 ∷ r7 ∷ [])) (u0 ∷ u1 ∷ u2 ∷ u3 ∷ u4 ∷ u5 ∷ u6 ∷ u7 ∷ []) p refl
    ∙ (λ i. bit_xor ((sum_at (double ts) (r0 ∷ r1 ∷ r2 ∷ r3 ∷ r4 ∷ r5 ∷ r6 ∷ r7 ∷ []) p refl ∙ (λ j. bit_xor (e2 j) (octet_at (r0 ∷ r1 ∷ r2 ∷ r3
    ∷ r4 ∷ r5 ∷ r6 ∷ r7 ∷ []) p))) i) (octet_at (u0 ∷ u1 ∷ u2 ∷ u3 ∷ u4 ∷ u5 ∷ u6 ∷ u7 ∷ []) p))
    ∙ (λ i. bit_xor (bit_xor (bit_xor (product 2 (ea i)) (product 2 (eb i))) (eb i)) (ecd i))
    ∙ (λ i. bit_xor ((xor_assoc (product 2 a) (product 2 b) b ∙ ap (bit_xor (product 2 a)) (at (λ (b : ℕ). bit_xor (product 2 b) b) (λ (b : ℕ).
    product 3 b) all_thirds b lb)) i) (bit_xor c d))

octet_of : (xs : List ℕ) → length xs ≡ 8 → Bits xs → octet xs < 256
octet_of (x0 ∷ x1 ∷ x2 ∷ x3 ∷ x4 ∷ x5 ∷ x6 ∷ x7 ∷ []) e (p0, (p1, (p2, (p3, (p4, (p5, (p6, (p7, z)))))))) = omega (arith, p0, p1, p2, p3, p4, p5, p6, p7)
octet_of _ e b = absurd (omega arith)

pub octet_at_low : (ws : List ℕ) (p : ℕ) → length ws ≡ 8 → octet_at ws p < 256
octet_at_low ws p e = octet_of (lane p ws) (length_lane p ws ∙ e) (lane_bits p ws)

-- # Rounds

abbrev p1 : ℕ → ℕ
p1 p = (p + 8) % 32

abbrev p2 : ℕ → ℕ
p2 p = (p + 16) % 32

abbrev p3 : ℕ → ℕ
p3 p = (p + 24) % 32

pub mixing : (q : List ℕ) (r0 r1 r2 r3 r4 r5 r6 r7 u0 u1 u2 u3 u4 u5 u6 u7 : ℕ) → length q ≡ 8
    → ((p : ℕ) → p < 32 → bit_at r0 p ≡ bit_at (get_or q 0 0) (p1 p))
    → ((p : ℕ) → p < 32 → bit_at r1 p ≡ bit_at (get_or q 1 0) (p1 p))
    → ((p : ℕ) → p < 32 → bit_at r2 p ≡ bit_at (get_or q 2 0) (p1 p))
    → ((p : ℕ) → p < 32 → bit_at r3 p ≡ bit_at (get_or q 3 0) (p1 p))
    → ((p : ℕ) → p < 32 → bit_at r4 p ≡ bit_at (get_or q 4 0) (p1 p))
    → ((p : ℕ) → p < 32 → bit_at r5 p ≡ bit_at (get_or q 5 0) (p1 p))
    → ((p : ℕ) → p < 32 → bit_at r6 p ≡ bit_at (get_or q 6 0) (p1 p))
    → ((p : ℕ) → p < 32 → bit_at r7 p ≡ bit_at (get_or q 7 0) (p1 p))
    → ((p : ℕ) → p < 32 → bit_at u0 p ≡ bit_at (bit_xor (get_or q 0 0) r0) (p2 p))
    → ((p : ℕ) → p < 32 → bit_at u1 p ≡ bit_at (bit_xor (get_or q 1 0) r1) (p2 p))
    → ((p : ℕ) → p < 32 → bit_at u2 p ≡ bit_at (bit_xor (get_or q 2 0) r2) (p2 p))
    → ((p : ℕ) → p < 32 → bit_at u3 p ≡ bit_at (bit_xor (get_or q 3 0) r3) (p2 p))
    → ((p : ℕ) → p < 32 → bit_at u4 p ≡ bit_at (bit_xor (get_or q 4 0) r4) (p2 p))
    → ((p : ℕ) → p < 32 → bit_at u5 p ≡ bit_at (bit_xor (get_or q 5 0) r5) (p2 p))
    → ((p : ℕ) → p < 32 → bit_at u6 p ≡ bit_at (bit_xor (get_or q 6 0) r6) (p2 p))
    → ((p : ℕ) → p < 32 → bit_at u7 p ≡ bit_at (bit_xor (get_or q 7 0) r7) (p2 p))
    → (p : ℕ) → p < 32 → octet_at (bit_xor (bit_xor (bit_xor (get_or q 7 0) r7) r0) u0 ∷ bit_xor (bit_xor (bit_xor (bit_xor (get_or q 0 0) r0)
    (bit_xor (get_or q 7 0) r7)) r1) u1 ∷ bit_xor (bit_xor (bit_xor (get_or q 1 0) r1) r2) u2
    ∷ bit_xor (bit_xor (bit_xor (bit_xor (get_or q 2 0) r2) (bit_xor (get_or q 7 0) r7)) r3) u3
    ∷ bit_xor (bit_xor (bit_xor (bit_xor (get_or q 3 0) r3) (bit_xor (get_or q 7 0) r7)) r4) u4
    ∷ bit_xor (bit_xor (bit_xor (get_or q 4 0) r4) r5) u5 ∷ bit_xor (bit_xor (bit_xor (get_or q 5 0) r5) r6) u6
    ∷ bit_xor (bit_xor (bit_xor (get_or q 6 0) r6) r7) u7 ∷ []) p ≡ mixed_octet (octet_at q p) (octet_at q (p1 p)) (octet_at q (p2 p)) (octet_at q
    (p3 p))
mixing q r0 r1 r2 r3 r4 r5 r6 r7 u0 u1 u2 u3 u4 u5 u6 u7 len er0 er1 er2 er3 er4 er5 er6 er7 eu0 eu1 eu2 eu3 eu4 eu5 eu6 eu7 p low =
    let own : (j : ℕ) → octet_at (get_or q 0 0 ∷ get_or q 1 0 ∷ get_or q 2 0 ∷ get_or q 3 0 ∷ get_or q 4 0 ∷ get_or q 5 0 ∷ get_or q 6 0
    ∷ get_or q 7 0 ∷ []) j ≡ octet_at q j = λ j. ap (λ (ws : List ℕ). octet_at ws j) (spelled 8 q len) in
    let after : (j : ℕ) → j < 32 → octet_at (r0 ∷ r1 ∷ r2 ∷ r3 ∷ r4 ∷ r5 ∷ r6 ∷ r7 ∷ []) j ≡ octet_at q (p1 j) =
    λ j l. (λ i. octet (er0 j l i ∷ er1 j l i ∷ er2 j l i ∷ er3 j l i ∷ er4 j l i ∷ er5 j l i ∷ er6 j l i ∷ er7 j l i ∷ [])) ∙ own (p1 j) in
    let turns : p1 (p2 p) ≡ p3 p = omega (arith, low) in
    let two : octet_at (u0 ∷ u1 ∷ u2 ∷ u3 ∷ u4 ∷ u5 ∷ u6 ∷ u7 ∷ []) p ≡ bit_xor (octet_at q (p2 p)) (octet_at q (p3 p)) =
    (λ i. octet (eu0 p low i ∷ eu1 p low i ∷ eu2 p low i ∷ eu3 p low i ∷ eu4 p low i ∷ eu5 p low i ∷ eu6 p low i ∷ eu7 p low i ∷ []))
    ∙ sum_at (get_or q 0 0 ∷ get_or q 1 0 ∷ get_or q 2 0 ∷ get_or q 3 0 ∷ get_or q 4 0 ∷ get_or q 5 0 ∷ get_or q 6 0 ∷ get_or q 7 0 ∷ []) (r0 ∷ r1
    ∷ r2 ∷ r3 ∷ r4 ∷ r5 ∷ r6 ∷ r7 ∷ []) (p2 p) refl
    ∙ (λ i. bit_xor (own (p2 p) i) ((after (p2 p) (omega arith) ∙ ap (octet_at q) turns) i)) in
    mixed_at (get_or q 0 0) (get_or q 1 0) (get_or q 2 0) (get_or q 3 0) (get_or q 4 0) (get_or q 5 0) (get_or q 6 0) (get_or q 7 0) r0 r1 r2 r3 r4
    r5 r6 r7 u0 u1 u2 u3 u4 u5 u6 u7 p (octet_at q p) (octet_at q (p1 p)) (octet_at q (p2 p)) (octet_at q (p3 p))
    (own p) (after p low) two (octet_at_low q p len) (octet_at_low q (p1 p) len)

abbrev boxed : List ℕ → ℕ → ℕ
boxed q p = s_box (octet_at q (shifted_from p))

round_at : (q s h m k r : List ℕ)
    → ((p : ℕ) → p < 32 → octet_at s p ≡ s_box (octet_at q p))
    → ((p : ℕ) → p < 32 → octet_at h p ≡ octet_at s (shifted_from p))
    → ((p : ℕ) → p < 32 → octet_at m p ≡ mixed_octet (octet_at h p) (octet_at h (p1 p)) (octet_at h (p2 p)) (octet_at h (p3 p)))
    → ((p : ℕ) → p < 32 → octet_at r p ≡ bit_xor (octet_at m p) (octet_at k p))
    → (p : ℕ) → p < 32 → octet_at r p ≡ bit_xor (mixed_octet (boxed q p) (boxed q (p1 p)) (boxed q (p2 p)) (boxed q (p3 p))) (octet_at k p)
round_at q s h m k r es eh em er p low =
    let one : (j : ℕ) → j < 32 → octet_at h j ≡ boxed q j = λ j l. eh j l ∙ es (shifted_from j) (omega (arith, l)) in
    er p low ∙ (λ i. bit_xor (em p low i) (octet_at k p))
    ∙ (λ i. bit_xor (mixed_octet (one p low i) (one (p1 p) (omega arith) i) (one (p2 p) (omega arith) i) (one (p3 p) (omega arith) i)) (octet_at k p))

last_at : (q s h k r : List ℕ)
    → ((p : ℕ) → p < 32 → octet_at s p ≡ s_box (octet_at q p))
    → ((p : ℕ) → p < 32 → octet_at h p ≡ octet_at s (shifted_from p))
    → ((p : ℕ) → p < 32 → octet_at r p ≡ bit_xor (octet_at h p) (octet_at k p))
    → (p : ℕ) → p < 32 → octet_at r p ≡ bit_xor (boxed q p) (octet_at k p)
last_at q s h k r es eh er p low = er p low ∙ (λ i. bit_xor ((eh p low ∙ es (shifted_from p) (omega (arith, low))) i) (octet_at k p))

round_0 : (q k r : List ℕ) → ((p : ℕ) → p < 32 → octet_at r p ≡ bit_xor (mixed_octet (boxed q p) (boxed q (p1 p)) (boxed q (p2 p)) (boxed q (p3 p)))
    (octet_at k p)) → state 0 r ≡ round (state 0 k) (state 0 q)
unfolding round
round_0 q k r e = λ i.
    (e 0 (omega arith) ∙ ap (λ (x : ℕ). bit_xor x (octet_at k 0)) (turn0 (product 2 (s_box (octet_at q 0))) (product 3 (s_box (octet_at q 10)))
    (s_box (octet_at q 20)) (s_box (octet_at q 30)))) i
    ∷ (e 8 (omega arith) ∙ ap (λ (x : ℕ). bit_xor x (octet_at k 8)) (turn1 (product 2 (s_box (octet_at q 10))) (product 3 (s_box (octet_at q 20)))
    (s_box (octet_at q 30)) (s_box (octet_at q 0)))) i
    ∷ (e 16 (omega arith) ∙ ap (λ (x : ℕ). bit_xor x (octet_at k 16)) (turn2 (product 2 (s_box (octet_at q 20))) (product 3 (s_box (octet_at q 30)))
    (s_box (octet_at q 0)) (s_box (octet_at q 10)))) i
    ∷ (e 24 (omega arith) ∙ ap (λ (x : ℕ). bit_xor x (octet_at k 24)) (turn3 (product 2 (s_box (octet_at q 30))) (product 3 (s_box (octet_at q 0)))
    (s_box (octet_at q 10)) (s_box (octet_at q 20)))) i
    ∷ (e 2 (omega arith) ∙ ap (λ (x : ℕ). bit_xor x (octet_at k 2)) (turn0 (product 2 (s_box (octet_at q 2))) (product 3 (s_box (octet_at q 12)))
    (s_box (octet_at q 22)) (s_box (octet_at q 24)))) i
    ∷ (e 10 (omega arith) ∙ ap (λ (x : ℕ). bit_xor x (octet_at k 10)) (turn1 (product 2 (s_box (octet_at q 12))) (product 3 (s_box (octet_at q 22)))
    (s_box (octet_at q 24)) (s_box (octet_at q 2)))) i
    ∷ (e 18 (omega arith) ∙ ap (λ (x : ℕ). bit_xor x (octet_at k 18)) (turn2 (product 2 (s_box (octet_at q 22))) (product 3 (s_box (octet_at q 24)))
    (s_box (octet_at q 2)) (s_box (octet_at q 12)))) i
    ∷ (e 26 (omega arith) ∙ ap (λ (x : ℕ). bit_xor x (octet_at k 26)) (turn3 (product 2 (s_box (octet_at q 24))) (product 3 (s_box (octet_at q 2)))
    (s_box (octet_at q 12)) (s_box (octet_at q 22)))) i
    ∷ (e 4 (omega arith) ∙ ap (λ (x : ℕ). bit_xor x (octet_at k 4)) (turn0 (product 2 (s_box (octet_at q 4))) (product 3 (s_box (octet_at q 14)))
    (s_box (octet_at q 16)) (s_box (octet_at q 26)))) i
    ∷ (e 12 (omega arith) ∙ ap (λ (x : ℕ). bit_xor x (octet_at k 12)) (turn1 (product 2 (s_box (octet_at q 14))) (product 3 (s_box (octet_at q 16)))
    (s_box (octet_at q 26)) (s_box (octet_at q 4)))) i
    ∷ (e 20 (omega arith) ∙ ap (λ (x : ℕ). bit_xor x (octet_at k 20)) (turn2 (product 2 (s_box (octet_at q 16))) (product 3 (s_box (octet_at q 26)))
    (s_box (octet_at q 4)) (s_box (octet_at q 14)))) i
    ∷ (e 28 (omega arith) ∙ ap (λ (x : ℕ). bit_xor x (octet_at k 28)) (turn3 (product 2 (s_box (octet_at q 26))) (product 3 (s_box (octet_at q 4)))
    (s_box (octet_at q 14)) (s_box (octet_at q 16)))) i
    ∷ (e 6 (omega arith) ∙ ap (λ (x : ℕ). bit_xor x (octet_at k 6)) (turn0 (product 2 (s_box (octet_at q 6))) (product 3 (s_box (octet_at q 8)))
    (s_box (octet_at q 18)) (s_box (octet_at q 28)))) i
    ∷ (e 14 (omega arith) ∙ ap (λ (x : ℕ). bit_xor x (octet_at k 14)) (turn1 (product 2 (s_box (octet_at q 8))) (product 3 (s_box (octet_at q 18)))
    (s_box (octet_at q 28)) (s_box (octet_at q 6)))) i
    ∷ (e 22 (omega arith) ∙ ap (λ (x : ℕ). bit_xor x (octet_at k 22)) (turn2 (product 2 (s_box (octet_at q 18))) (product 3 (s_box (octet_at q 28)))
    (s_box (octet_at q 6)) (s_box (octet_at q 8)))) i
    ∷ (e 30 (omega arith) ∙ ap (λ (x : ℕ). bit_xor x (octet_at k 30)) (turn3 (product 2 (s_box (octet_at q 28))) (product 3 (s_box (octet_at q 6)))
    (s_box (octet_at q 8)) (s_box (octet_at q 18)))) i ∷ []

last_0 : (q k r : List ℕ) → ((p : ℕ) → p < 32 → octet_at r p ≡ bit_xor (boxed q p) (octet_at k p)) → state 0 r ≡ last_round (state 0 k) (state 0 q)
unfolding last_round
last_0 q k r e = λ i.
    e 0 (omega arith) i ∷ e 8 (omega arith) i ∷ e 16 (omega arith) i ∷ e 24 (omega arith) i ∷ e 2 (omega arith) i ∷ e 10 (omega arith) i
    ∷ e 18 (omega arith) i ∷ e 26 (omega arith) i ∷ e 4 (omega arith) i ∷ e 12 (omega arith) i ∷ e 20 (omega arith) i ∷ e 28 (omega arith) i
    ∷ e 6 (omega arith) i ∷ e 14 (omega arith) i ∷ e 22 (omega arith) i ∷ e 30 (omega arith) i ∷ []

round_1 : (q k r : List ℕ) → ((p : ℕ) → p < 32 → octet_at r p ≡ bit_xor (mixed_octet (boxed q p) (boxed q (p1 p)) (boxed q (p2 p)) (boxed q (p3 p)))
    (octet_at k p)) → state 1 r ≡ round (state 1 k) (state 1 q)
unfolding round
round_1 q k r e = λ i.
    (e 1 (omega arith) ∙ ap (λ (x : ℕ). bit_xor x (octet_at k 1)) (turn0 (product 2 (s_box (octet_at q 1))) (product 3 (s_box (octet_at q 11)))
    (s_box (octet_at q 21)) (s_box (octet_at q 31)))) i
    ∷ (e 9 (omega arith) ∙ ap (λ (x : ℕ). bit_xor x (octet_at k 9)) (turn1 (product 2 (s_box (octet_at q 11))) (product 3 (s_box (octet_at q 21)))
    (s_box (octet_at q 31)) (s_box (octet_at q 1)))) i
    ∷ (e 17 (omega arith) ∙ ap (λ (x : ℕ). bit_xor x (octet_at k 17)) (turn2 (product 2 (s_box (octet_at q 21))) (product 3 (s_box (octet_at q 31)))
    (s_box (octet_at q 1)) (s_box (octet_at q 11)))) i
    ∷ (e 25 (omega arith) ∙ ap (λ (x : ℕ). bit_xor x (octet_at k 25)) (turn3 (product 2 (s_box (octet_at q 31))) (product 3 (s_box (octet_at q 1)))
    (s_box (octet_at q 11)) (s_box (octet_at q 21)))) i
    ∷ (e 3 (omega arith) ∙ ap (λ (x : ℕ). bit_xor x (octet_at k 3)) (turn0 (product 2 (s_box (octet_at q 3))) (product 3 (s_box (octet_at q 13)))
    (s_box (octet_at q 23)) (s_box (octet_at q 25)))) i
    ∷ (e 11 (omega arith) ∙ ap (λ (x : ℕ). bit_xor x (octet_at k 11)) (turn1 (product 2 (s_box (octet_at q 13))) (product 3 (s_box (octet_at q 23)))
    (s_box (octet_at q 25)) (s_box (octet_at q 3)))) i
    ∷ (e 19 (omega arith) ∙ ap (λ (x : ℕ). bit_xor x (octet_at k 19)) (turn2 (product 2 (s_box (octet_at q 23))) (product 3 (s_box (octet_at q 25)))
    (s_box (octet_at q 3)) (s_box (octet_at q 13)))) i
    ∷ (e 27 (omega arith) ∙ ap (λ (x : ℕ). bit_xor x (octet_at k 27)) (turn3 (product 2 (s_box (octet_at q 25))) (product 3 (s_box (octet_at q 3)))
    (s_box (octet_at q 13)) (s_box (octet_at q 23)))) i
    ∷ (e 5 (omega arith) ∙ ap (λ (x : ℕ). bit_xor x (octet_at k 5)) (turn0 (product 2 (s_box (octet_at q 5))) (product 3 (s_box (octet_at q 15)))
    (s_box (octet_at q 17)) (s_box (octet_at q 27)))) i
    ∷ (e 13 (omega arith) ∙ ap (λ (x : ℕ). bit_xor x (octet_at k 13)) (turn1 (product 2 (s_box (octet_at q 15))) (product 3 (s_box (octet_at q 17)))
    (s_box (octet_at q 27)) (s_box (octet_at q 5)))) i
    ∷ (e 21 (omega arith) ∙ ap (λ (x : ℕ). bit_xor x (octet_at k 21)) (turn2 (product 2 (s_box (octet_at q 17))) (product 3 (s_box (octet_at q 27)))
    (s_box (octet_at q 5)) (s_box (octet_at q 15)))) i
    ∷ (e 29 (omega arith) ∙ ap (λ (x : ℕ). bit_xor x (octet_at k 29)) (turn3 (product 2 (s_box (octet_at q 27))) (product 3 (s_box (octet_at q 5)))
    (s_box (octet_at q 15)) (s_box (octet_at q 17)))) i
    ∷ (e 7 (omega arith) ∙ ap (λ (x : ℕ). bit_xor x (octet_at k 7)) (turn0 (product 2 (s_box (octet_at q 7))) (product 3 (s_box (octet_at q 9)))
    (s_box (octet_at q 19)) (s_box (octet_at q 29)))) i
    ∷ (e 15 (omega arith) ∙ ap (λ (x : ℕ). bit_xor x (octet_at k 15)) (turn1 (product 2 (s_box (octet_at q 9))) (product 3 (s_box (octet_at q 19)))
    (s_box (octet_at q 29)) (s_box (octet_at q 7)))) i
    ∷ (e 23 (omega arith) ∙ ap (λ (x : ℕ). bit_xor x (octet_at k 23)) (turn2 (product 2 (s_box (octet_at q 19))) (product 3 (s_box (octet_at q 29)))
    (s_box (octet_at q 7)) (s_box (octet_at q 9)))) i
    ∷ (e 31 (omega arith) ∙ ap (λ (x : ℕ). bit_xor x (octet_at k 31)) (turn3 (product 2 (s_box (octet_at q 29))) (product 3 (s_box (octet_at q 7)))
    (s_box (octet_at q 9)) (s_box (octet_at q 19)))) i ∷ []

last_1 : (q k r : List ℕ) → ((p : ℕ) → p < 32 → octet_at r p ≡ bit_xor (boxed q p) (octet_at k p)) → state 1 r ≡ last_round (state 1 k) (state 1 q)
unfolding last_round
last_1 q k r e = λ i.
    e 1 (omega arith) i ∷ e 9 (omega arith) i ∷ e 17 (omega arith) i ∷ e 25 (omega arith) i ∷ e 3 (omega arith) i ∷ e 11 (omega arith) i
    ∷ e 19 (omega arith) i ∷ e 27 (omega arith) i ∷ e 5 (omega arith) i ∷ e 13 (omega arith) i ∷ e 21 (omega arith) i ∷ e 29 (omega arith) i
    ∷ e 7 (omega arith) i ∷ e 15 (omega arith) i ∷ e 23 (omega arith) i ∷ e 31 (omega arith) i ∷ []

pub round_of : (q s h m k r : List ℕ)
    → ((p : ℕ) → p < 32 → octet_at s p ≡ s_box (octet_at q p))
    → ((p : ℕ) → p < 32 → octet_at h p ≡ octet_at s (shifted_from p))
    → ((p : ℕ) → p < 32 → octet_at m p ≡ mixed_octet (octet_at h p) (octet_at h (p1 p)) (octet_at h (p2 p)) (octet_at h (p3 p)))
    → ((p : ℕ) → p < 32 → octet_at r p ≡ bit_xor (octet_at m p) (octet_at k p))
    → (b : ℕ) → b < 2 → state b r ≡ round (state b k) (state b q)
round_of q s h m k r es eh em er zero low = round_0 q k r (round_at q s h m k r es eh em er)
round_of q s h m k r es eh em er (suc zero) low = round_1 q k r (round_at q s h m k r es eh em er)
round_of q s h m k r es eh em er (suc (suc b)) low = absurd (omega (arith, low))

pub last_of : (q s h k r : List ℕ)
    → ((p : ℕ) → p < 32 → octet_at s p ≡ s_box (octet_at q p))
    → ((p : ℕ) → p < 32 → octet_at h p ≡ octet_at s (shifted_from p))
    → ((p : ℕ) → p < 32 → octet_at r p ≡ bit_xor (octet_at h p) (octet_at k p))
    → (b : ℕ) → b < 2 → state b r ≡ last_round (state b k) (state b q)
last_of q s h k r es eh er zero low = last_0 q k r (last_at q s h k r es eh er)
last_of q s h k r es eh er (suc zero) low = last_1 q k r (last_at q s h k r es eh er)
last_of q s h k r es eh er (suc (suc b)) low = absurd (omega (arith, low))
