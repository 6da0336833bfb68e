-- A lane of the circuit over words is the circuit over single bits, and that one is the S-box in all 256 cases.
use Rattle.std.proofs.Common.{◌≡◌, ℕ, zero, suc, ◌+◌, ◌%◌, ◌<◌, List, [], ◌∷◌, map, get_or, min, bit_xor, bit_and, refl, sym, ap, ◌∙◌, arith}
use Rattle.std.specs.Int.{bit_at}
use Rattle.std.specs.List.{range_with_len}
use Rattle.std.proofs.lemmas.List.FromFn.{get_or-map-range_with_len}
use Rattle.std.proofs.lemmas.Nat.Bits.{bit_at_xor, bit_at_and, bit_at-lt, bit_at_ones}
use Rattle.aes_modes.specs.Field.{product, inverse, s_box}
use Rattle.aes_modes.specs.Sliced.{circuit, octet, lane}

-- one bit of a sum and of a product, as the same gate over bits
xor_bits : (x y : ℕ) → x < 2 → y < 2 → (x + y) % 2 ≡ bit_xor x y
xor_bits zero zero p q = refl
xor_bits zero (suc zero) p q = refl
xor_bits (suc zero) zero p q = refl
xor_bits (suc zero) (suc zero) p q = refl
xor_bits (suc (suc x)) y p q = absurd (omega arith)
xor_bits zero (suc (suc y)) p q = absurd (omega arith)
xor_bits (suc zero) (suc (suc y)) p q = absurd (omega arith)

and_bits : (x y : ℕ) → x < 2 → y < 2 → min x y ≡ bit_and x y
and_bits zero zero p q = refl
and_bits zero (suc zero) p q = refl
and_bits (suc zero) zero p q = refl
and_bits (suc zero) (suc zero) p q = refl
and_bits (suc (suc x)) y p q = absurd (omega arith)
and_bits zero (suc (suc y)) p q = absurd (omega arith)
and_bits (suc zero) (suc (suc y)) p q = absurd (omega arith)

pub both_xor : (k a b : ℕ) {x y : ℕ} → bit_at a k ≡ x → bit_at b k ≡ y → bit_at (bit_xor a b) k ≡ bit_xor x y
both_xor k a b ea eb =
    bit_at_xor a b k ∙ xor_bits (bit_at a k) (bit_at b k) (bit_at-lt a k) (bit_at-lt b k) ∙ (λ i. bit_xor (ea i) (eb i))

pub both_and : (k a b : ℕ) {x y : ℕ} → bit_at a k ≡ x → bit_at b k ≡ y → bit_at (bit_and a b) k ≡ bit_and x y
both_and k a b ea eb =
    bit_at_and a b k ∙ and_bits (bit_at a k) (bit_at b k) (bit_at-lt a k) (bit_at-lt b k) ∙ (λ i. bit_and (ea i) (eb i))

pub lane_of_circuit : (u7 u6 u5 u4 u3 u2 u1 u0 k : ℕ) → k < 32
    → lane k (circuit 4294967295 u7 u6 u5 u4 u3 u2 u1 u0) ≡ circuit 1 (bit_at u7 k) (bit_at u6 k) (bit_at u5 k) (bit_at u4 k) (bit_at u3 k) (bit_at
    u2 k) (bit_at u1 k) (bit_at u0 k)
unfolding circuit
lane_of_circuit u7 u6 u5 u4 u3 u2 u1 u0 k low =
    let e_ones : bit_at 4294967295 k ≡ 1 = bit_at_ones 32 k low in
    let e_u7 : bit_at u7 k ≡ bit_at u7 k = refl in
    let e_u6 : bit_at u6 k ≡ bit_at u6 k = refl in
    let e_u5 : bit_at u5 k ≡ bit_at u5 k = refl in
    let e_u4 : bit_at u4 k ≡ bit_at u4 k = refl in
    let e_u3 : bit_at u3 k ≡ bit_at u3 k = refl in
    let e_u2 : bit_at u2 k ≡ bit_at u2 k = refl in
    let e_u1 : bit_at u1 k ≡ bit_at u1 k = refl in
    let e_u0 : bit_at u0 k ≡ bit_at u0 k = refl in
    let e_y14 = both_xor k _ _ e_u3 e_u5 in
    let e_y13 = both_xor k _ _ e_u0 e_u6 in
    let e_y12 = both_xor k _ _ e_y13 e_y14 in
    let e_t1 = both_xor k _ _ e_u4 e_y12 in
    let e_y15 = both_xor k _ _ e_t1 e_u5 in
    let e_t2 = both_and k _ _ e_y12 e_y15 in
    let e_y6 = both_xor k _ _ e_y15 e_u7 in
    let e_y20 = both_xor k _ _ e_t1 e_u1 in
    let e_y9 = both_xor k _ _ e_u0 e_u3 in
    let e_y11 = both_xor k _ _ e_y20 e_y9 in
    let e_t12 = both_and k _ _ e_y9 e_y11 in
    let e_y7 = both_xor k _ _ e_u7 e_y11 in
    let e_y8 = both_xor k _ _ e_u0 e_u5 in
    let e_t0 = both_xor k _ _ e_u1 e_u2 in
    let e_y10 = both_xor k _ _ e_y15 e_t0 in
    let e_y17 = both_xor k _ _ e_y10 e_y11 in
    let e_t13 = both_and k _ _ e_y14 e_y17 in
    let e_t14 = both_xor k _ _ e_t13 e_t12 in
    let e_y19 = both_xor k _ _ e_y10 e_y8 in
    let e_t15 = both_and k _ _ e_y8 e_y10 in
    let e_t16 = both_xor k _ _ e_t15 e_t12 in
    let e_y16 = both_xor k _ _ e_t0 e_y11 in
    let e_y21 = both_xor k _ _ e_y13 e_y16 in
    let e_t7 = both_and k _ _ e_y13 e_y16 in
    let e_y18 = both_xor k _ _ e_u0 e_y16 in
    let e_y1 = both_xor k _ _ e_t0 e_u7 in
    let e_y4 = both_xor k _ _ e_y1 e_u3 in
    let e_t5 = both_and k _ _ e_y4 e_u7 in
    let e_t6 = both_xor k _ _ e_t5 e_t2 in
    let e_t18 = both_xor k _ _ e_t6 e_t16 in
    let e_t22 = both_xor k _ _ e_t18 e_y19 in
    let e_y2 = both_xor k _ _ e_y1 e_u0 in
    let e_t10 = both_and k _ _ e_y2 e_y7 in
    let e_t11 = both_xor k _ _ e_t10 e_t7 in
    let e_t20 = both_xor k _ _ e_t11 e_t16 in
    let e_t24 = both_xor k _ _ e_t20 e_y18 in
    let e_y5 = both_xor k _ _ e_y1 e_u6 in
    let e_t8 = both_and k _ _ e_y5 e_y1 in
    let e_t9 = both_xor k _ _ e_t8 e_t7 in
    let e_t19 = both_xor k _ _ e_t9 e_t14 in
    let e_t23 = both_xor k _ _ e_t19 e_y21 in
    let e_y3 = both_xor k _ _ e_y5 e_y8 in
    let e_t3 = both_and k _ _ e_y3 e_y6 in
    let e_t4 = both_xor k _ _ e_t3 e_t2 in
    let e_t17 = both_xor k _ _ e_t4 e_y20 in
    let e_t21 = both_xor k _ _ e_t17 e_t14 in
    let e_t26 = both_and k _ _ e_t21 e_t23 in
    let e_t27 = both_xor k _ _ e_t24 e_t26 in
    let e_t31 = both_xor k _ _ e_t22 e_t26 in
    let e_t25 = both_xor k _ _ e_t21 e_t22 in
    let e_t28 = both_and k _ _ e_t25 e_t27 in
    let e_t29 = both_xor k _ _ e_t28 e_t22 in
    let e_z14 = both_and k _ _ e_t29 e_y2 in
    let e_z5 = both_and k _ _ e_t29 e_y7 in
    let e_t30 = both_xor k _ _ e_t23 e_t24 in
    let e_t32 = both_and k _ _ e_t31 e_t30 in
    let e_t33 = both_xor k _ _ e_t32 e_t24 in
    let e_t35 = both_xor k _ _ e_t27 e_t33 in
    let e_t36 = both_and k _ _ e_t24 e_t35 in
    let e_t38 = both_xor k _ _ e_t27 e_t36 in
    let e_t39 = both_and k _ _ e_t29 e_t38 in
    let e_t40 = both_xor k _ _ e_t25 e_t39 in
    let e_t43 = both_xor k _ _ e_t29 e_t40 in
    let e_z3 = both_and k _ _ e_t43 e_y16 in
    let e_tc12 = both_xor k _ _ e_z3 e_z5 in
    let e_z12 = both_and k _ _ e_t43 e_y13 in
    let e_z13 = both_and k _ _ e_t40 e_y5 in
    let e_z4 = both_and k _ _ e_t40 e_y1 in
    let e_tc6 = both_xor k _ _ e_z3 e_z4 in
    let e_t34 = both_xor k _ _ e_t23 e_t33 in
    let e_t37 = both_xor k _ _ e_t36 e_t34 in
    let e_t41 = both_xor k _ _ e_t40 e_t37 in
    let e_z8 = both_and k _ _ e_t41 e_y10 in
    let e_z17 = both_and k _ _ e_t41 e_y8 in
    let e_t44 = both_xor k _ _ e_t33 e_t37 in
    let e_z0 = both_and k _ _ e_t44 e_y15 in
    let e_z9 = both_and k _ _ e_t44 e_y12 in
    let e_z10 = both_and k _ _ e_t37 e_y3 in
    let e_z1 = both_and k _ _ e_t37 e_y6 in
    let e_tc5 = both_xor k _ _ e_z1 e_z0 in
    let e_tc11 = both_xor k _ _ e_tc6 e_tc5 in
    let e_z11 = both_and k _ _ e_t33 e_y4 in
    let e_t42 = both_xor k _ _ e_t29 e_t33 in
    let e_t45 = both_xor k _ _ e_t42 e_t41 in
    let e_z7 = both_and k _ _ e_t45 e_y17 in
    let e_tc8 = both_xor k _ _ e_z7 e_tc6 in
    let e_z16 = both_and k _ _ e_t45 e_y14 in
    let e_z6 = both_and k _ _ e_t42 e_y11 in
    let e_tc16 = both_xor k _ _ e_z6 e_tc8 in
    let e_z15 = both_and k _ _ e_t42 e_y9 in
    let e_tc20 = both_xor k _ _ e_z15 e_tc16 in
    let e_tc1 = both_xor k _ _ e_z15 e_z16 in
    let e_tc2 = both_xor k _ _ e_z10 e_tc1 in
    let e_tc21 = both_xor k _ _ e_tc2 e_z11 in
    let e_tc3 = both_xor k _ _ e_z9 e_tc2 in
    let e_s0 = both_xor k _ _ e_tc3 e_tc16 in
    let e_s3 = both_xor k _ _ e_tc3 e_tc11 in
    let e_s1 = both_xor k _ _ e_s3 e_tc16 in
    let e_tc13 = both_xor k _ _ e_z13 e_tc1 in
    let e_z2 = both_and k _ _ e_t33 e_u7 in
    let e_tc4 = both_xor k _ _ e_z0 e_z2 in
    let e_tc7 = both_xor k _ _ e_z12 e_tc4 in
    let e_tc9 = both_xor k _ _ e_z8 e_tc7 in
    let e_tc10 = both_xor k _ _ e_tc8 e_tc9 in
    let e_tc17 = both_xor k _ _ e_z14 e_tc10 in
    let e_s5 = both_xor k _ _ e_tc21 e_tc17 in
    let e_tc26 = both_xor k _ _ e_tc17 e_tc20 in
    let e_s2 = both_xor k _ _ e_tc26 e_z17 in
    let e_tc14 = both_xor k _ _ e_tc4 e_tc12 in
    let e_tc18 = both_xor k _ _ e_tc13 e_tc14 in
    let e_s6 = both_xor k _ _ e_tc10 e_tc18 in
    let e_s7 = both_xor k _ _ e_z12 e_tc18 in
    let e_s4 = both_xor k _ _ e_tc14 e_s3 in
    let f_s7 = both_xor k _ _ e_s7 e_ones in
    let f_s6 = both_xor k _ _ e_s6 e_ones in
    let f_s5 = e_s5 in
    let f_s4 = e_s4 in
    let f_s3 = e_s3 in
    let f_s2 = both_xor k _ _ e_s2 e_ones in
    let f_s1 = both_xor k _ _ e_s1 e_ones in
    let f_s0 = e_s0 in
    λ i. f_s7 i ∷ f_s6 i ∷ f_s5 i ∷ f_s4 i ∷ f_s3 i ∷ f_s2 i ∷ f_s1 i ∷ f_s0 i ∷ []

all : map (λ (b : ℕ). octet (circuit 1 (bit_at b 0) (bit_at b 1) (bit_at b 2) (bit_at b 3) (bit_at b 4) (bit_at b 5) (bit_at b 6) (bit_at b 7)))
    (range_with_len 0 256) ≡ map s_box (range_with_len 0 256)
unfolding circuit product inverse s_box
all = refl

at : (b : ℕ) → b < 256 → octet (circuit 1 (bit_at b 0) (bit_at b 1) (bit_at b 2) (bit_at b 3) (bit_at b 4) (bit_at b 5) (bit_at b 6) (bit_at b 7)) ≡ s_box b
at b low =
    sym (get_or-map-range_with_len (λ (b : ℕ). octet (circuit 1 (bit_at b 0) (bit_at b 1) (bit_at b 2) (bit_at b 3) (bit_at b 4) (bit_at b 5) (bit_at
    b 6) (bit_at b 7))) 0 256 b b 0 low (omega arith))
    ∙ ap (λ (xs : List ℕ). get_or xs b 0) all ∙ get_or-map-range_with_len s_box 0 256 b b 0 low (omega arith)

pub circuit_is_s_box : (x0 x1 x2 x3 x4 x5 x6 x7 : ℕ) → x0 < 2 → x1 < 2 → x2 < 2 → x3 < 2 → x4 < 2 → x5 < 2 → x6 < 2 → x7 < 2
    → octet (circuit 1 x0 x1 x2 x3 x4 x5 x6 x7) ≡ s_box (octet (x0 ∷ x1 ∷ x2 ∷ x3 ∷ x4 ∷ x5 ∷ x6 ∷ x7 ∷ []))
circuit_is_s_box x0 x1 x2 x3 x4 x5 x6 x7 p0 p1 p2 p3 p4 p5 p6 p7 =
    let b = octet (x0 ∷ x1 ∷ x2 ∷ x3 ∷ x4 ∷ x5 ∷ x6 ∷ x7 ∷ []) in
    let q0 : x0 ≡ bit_at b 0 = omega arith in
    let q1 : x1 ≡ bit_at b 1 = omega arith in
    let q2 : x2 ≡ bit_at b 2 = omega arith in
    let q3 : x3 ≡ bit_at b 3 = omega arith in
    let q4 : x4 ≡ bit_at b 4 = omega arith in
    let q5 : x5 ≡ bit_at b 5 = omega arith in
    let q6 : x6 ≡ bit_at b 6 = omega arith in
    let q7 : x7 ≡ bit_at b 7 = omega arith in
    (λ i. octet (circuit 1 (q0 i) (q1 i) (q2 i) (q3 i) (q4 i) (q5 i) (q6 i) (q7 i))) ∙ at b (omega arith)

pub octets_of_circuit : (u7 u6 u5 u4 u3 u2 u1 u0 i : ℕ) → i < 32
    → octet (lane i (circuit 4294967295 u7 u6 u5 u4 u3 u2 u1 u0)) ≡ s_box (octet (lane i (u7 ∷ u6 ∷ u5 ∷ u4 ∷ u3 ∷ u2 ∷ u1 ∷ u0 ∷ [])))
octets_of_circuit u7 u6 u5 u4 u3 u2 u1 u0 i low =
    ap octet (lane_of_circuit u7 u6 u5 u4 u3 u2 u1 u0 i low)
    ∙ circuit_is_s_box (bit_at u7 i) (bit_at u6 i) (bit_at u5 i) (bit_at u4 i) (bit_at u3 i) (bit_at u2 i) (bit_at u1 i) (bit_at u0 i) (bit_at-lt u7
    i) (bit_at-lt u6 i) (bit_at-lt u5 i) (bit_at-lt u4 i) (bit_at-lt u3 i) (bit_at-lt u2 i) (bit_at-lt u1 i) (bit_at-lt u0 i)
