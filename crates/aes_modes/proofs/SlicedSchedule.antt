-- Round keys in eight words, and the rounds of a block with them.
use Rattle.std.proofs.Common.{◌≡◌, ℕ, zero, suc, ◌+◌, ◌-◌, ◌*◌, ◌/◌, ◌%◌, ◌^◌, ◌<◌, ◌≤◌, List, [], ◌∷◌, map, min, bit_xor, bit_and, refl, ap, ◌∙◌, arith}
use Rattle.std.specs.Int.{bit_at}
use Rattle.std.specs.List.{range_with_len}
use Rattle.std.specs.Int.Bits.{xor_zero_r, xor_assoc}
use Rattle.std.proofs.lemmas.Nat.Bits.{bit_at_and, bit_at-lt}
use Rattle.aes_modes.specs.Field.{s_box}
use Rattle.aes_modes.specs.Cipher.{xor_bytes, round, round_key, round_constant, next_round_key, state_after}
use Rattle.aes_modes.specs.Sliced.{octet_at, state, IsSlicedSchedule, IsRoundConstant}
use Rattle.aes_modes.proofs.Words.{at_32, shl_high}
use Rattle.aes_modes.proofs.Schedule.{round_key-zero, next_round_key_is}

-- # Blocks

pub added_state : (q k r : List ℕ) → ((p : ℕ) → p < 32 → octet_at r p ≡ bit_xor (octet_at q p) (octet_at k p))
    → (b : ℕ) → b < 2 → state b r ≡ xor_bytes (state b q) (state b k)
added_state q k r e zero low = λ i. e 0 (omega arith) i ∷ e 8 (omega arith) i ∷ e 16 (omega arith) i ∷ e 24 (omega arith) i ∷ e 2 (omega arith) i
    ∷ e 10 (omega arith) i ∷ e 18 (omega arith) i ∷ e 26 (omega arith) i ∷ e 4 (omega arith) i ∷ e 12 (omega arith) i ∷ e 20 (omega arith) i
    ∷ e 28 (omega arith) i ∷ e 6 (omega arith) i ∷ e 14 (omega arith) i ∷ e 22 (omega arith) i ∷ e 30 (omega arith) i ∷ []
added_state q k r e (suc zero) low = λ i. e 1 (omega arith) i ∷ e 9 (omega arith) i ∷ e 17 (omega arith) i ∷ e 25 (omega arith) i
    ∷ e 3 (omega arith) i ∷ e 11 (omega arith) i ∷ e 19 (omega arith) i ∷ e 27 (omega arith) i ∷ e 5 (omega arith) i ∷ e 13 (omega arith) i
    ∷ e 21 (omega arith) i ∷ e 29 (omega arith) i ∷ e 7 (omega arith) i ∷ e 15 (omega arith) i ∷ e 23 (omega arith) i ∷ e 31 (omega arith) i ∷ []
added_state q k r e (suc (suc b)) low = absurd (omega (arith, low))

pub begun : (key block q k r : List ℕ) (b : ℕ) → state b q ≡ block → state b k ≡ round_key key 0 → state b r ≡ xor_bytes (state b q) (state b k)
    → state b r ≡ state_after key block 0
unfolding state_after
begun key block q k r b eq ek er = er ∙ (λ i. xor_bytes (eq i) (ek i))

pub more : (key block s r k : List ℕ) (b n : ℕ) → state b s ≡ state_after key block n → state b k ≡ round_key key (suc n)
    → state b r ≡ round (state b k) (state b s) → state b r ≡ state_after key block (suc n)
unfolding state_after
more key block s r k b n es ek er = er ∙ (λ i. round (ek i) (es i))

-- # Masks

and_keep : (a m t : ℕ) → t ≡ min a m → m ≡ 1 → a < 2 → t ≡ a
and_keep a m t et em la = omega (arith, et, em, la)

and_drop : (a m t : ℕ) → t ≡ min a m → m ≡ 0 → t ≡ 0
and_drop a m t et em = omega (arith, et, em)

masked_in : (x m p : ℕ) → bit_at m p ≡ 1 → bit_at (bit_and x m) p ≡ bit_at x p
masked_in x m p e = and_keep (bit_at x p) (bit_at m p) (bit_at (bit_and x m) p) (bit_at_and x m p) e (bit_at-lt x p)

masked_out : (x m p : ℕ) → bit_at m p ≡ 0 → bit_at (bit_and x m) p ≡ 0
masked_out x m p e = and_drop (bit_at x p) (bit_at m p) (bit_at (bit_and x m) p) (bit_at_and x m p) e

abbrev first_columns : ℕ → ℕ → ℕ
first_columns n p = 1 - min 1 (p % 8 / n)

abbrev other_columns : ℕ → ℕ → ℕ
other_columns n p = min 1 (p % 8 / n)

mask_3 : (p : ℕ) → p < 32 → bit_at 0x03030303 p ≡ first_columns 2 p
mask_3 = at_32 (λ (p : ℕ). bit_at 0x03030303 p) (λ (p : ℕ). first_columns 2 p) refl

mask_fc : (p : ℕ) → p < 32 → bit_at 0xfcfcfcfc p ≡ other_columns 2 p
mask_fc = at_32 (λ (p : ℕ). bit_at 0xfcfcfcfc p) (λ (p : ℕ). other_columns 2 p) refl

mask_f0 : (p : ℕ) → p < 32 → bit_at 0xf0f0f0f0 p ≡ other_columns 4 p
mask_f0 = at_32 (λ (p : ℕ). bit_at 0xf0f0f0f0 p) (λ (p : ℕ). other_columns 4 p) refl

pub last_in : (x y p : ℕ) → ((j : ℕ) → j < 32 → bit_at y j ≡ bit_at x ((j + 14) % 32)) → p < 32 → p % 8 < 2
    → bit_at (bit_and y 0x03030303) p ≡ bit_at x ((p + 14) % 32)
last_in x y p e low h = masked_in y 0x03030303 p (mask_3 p low ∙ omega (arith, h)) ∙ e p low

pub last_out : (y p : ℕ) → p < 32 → 2 ≤ p % 8 → bit_at (bit_and y 0x03030303) p ≡ 0
last_out y p low h = masked_out y 0x03030303 p (mask_3 p low ∙ omega (arith, h))

pub one_in : (x p : ℕ) → p < 32 → 2 ≤ p % 8 → bit_at (bit_and (x * 2 ^ 2 % 2 ^ 32) 0xfcfcfcfc) p ≡ bit_at x (p - 2)
one_in x p low h = masked_in (x * 2 ^ 2 % 2 ^ 32) 0xfcfcfcfc p (mask_fc p low ∙ omega (arith, h)) ∙ shl_high x 2 p (omega (arith, h)) (omega arith) low

pub one_out : (x p : ℕ) → p < 32 → p % 8 < 2 → bit_at (bit_and (x * 2 ^ 2 % 2 ^ 32) 0xfcfcfcfc) p ≡ 0
one_out x p low h = masked_out (x * 2 ^ 2 % 2 ^ 32) 0xfcfcfcfc p (mask_fc p low ∙ omega (arith, h))

pub two_in : (x p : ℕ) → p < 32 → 4 ≤ p % 8 → bit_at (bit_and (x * 2 ^ 4 % 2 ^ 32) 0xf0f0f0f0) p ≡ bit_at x (p - 4)
two_in x p low h = masked_in (x * 2 ^ 4 % 2 ^ 32) 0xf0f0f0f0 p (mask_f0 p low ∙ omega (arith, h)) ∙ shl_high x 4 p (omega (arith, h)) (omega arith) low

pub two_out : (x p : ℕ) → p < 32 → p % 8 < 4 → bit_at (bit_and (x * 2 ^ 4 % 2 ^ 32) 0xf0f0f0f0) p ≡ 0
two_out x p low h = masked_out (x * 2 ^ 4 % 2 ^ 32) 0xf0f0f0f0 p (mask_f0 p low ∙ omega (arith, h))

-- # The round key after a round key

abbrev Step : List ℕ → List ℕ → List ℕ → List ℕ → List ℕ → List ℕ → List ℕ → List ℕ → List ℕ → List ℕ → ℕ → Type 0
Step k s t w constant x o y u r c =
    ((p : ℕ) → p < 32 → octet_at s p ≡ s_box (octet_at k p))
    × ((p : ℕ) → p < 32 → p % 8 < 2 → octet_at t p ≡ octet_at s ((p + 14) % 32))
    × ((p : ℕ) → p < 32 → 2 ≤ p % 8 → octet_at t p ≡ 0)
    × ((p : ℕ) → p < 32 → octet_at w p ≡ bit_xor (octet_at k p) (octet_at t p))
    × IsRoundConstant c constant
    × ((p : ℕ) → p < 32 → octet_at x p ≡ bit_xor (octet_at w p) (octet_at constant p))
    × ((p : ℕ) → p < 32 → 2 ≤ p % 8 → octet_at o p ≡ octet_at x (p - 2))
    × ((p : ℕ) → p < 32 → p % 8 < 2 → octet_at o p ≡ 0)
    × ((p : ℕ) → p < 32 → octet_at y p ≡ bit_xor (octet_at x p) (octet_at o p))
    × ((p : ℕ) → p < 32 → 4 ≤ p % 8 → octet_at u p ≡ octet_at y (p - 4))
    × ((p : ℕ) → p < 32 → p % 8 < 4 → octet_at u p ≡ 0)
    × ((p : ℕ) → p < 32 → octet_at r p ≡ bit_xor (octet_at y p) (octet_at u p))

-- a column with nothing added
plain_at : (w k t x r0 : ℕ) → w ≡ bit_xor k t → t ≡ 0 → x ≡ bit_xor w r0 → r0 ≡ 0 → x ≡ k
plain_at w k t x r0 ew et ex er = ex ∙ (λ i. bit_xor ((ew ∙ ap (bit_xor k) et ∙ xor_zero_r k) i) (er i)) ∙ xor_zero_r k

first_at : (w k t x r0 s c : ℕ) → w ≡ bit_xor k t → t ≡ s → x ≡ bit_xor w r0 → r0 ≡ c → x ≡ bit_xor k (bit_xor s c)
first_at w k t x r0 s c ew et ex er = ex ∙ (λ i. bit_xor ((ew ∙ ap (bit_xor k) et) i) (er i)) ∙ xor_assoc k s c

sum_none : (r y u : ℕ) → r ≡ bit_xor y u → u ≡ 0 → r ≡ y
sum_none r y u er eu = er ∙ ap (bit_xor y) eu ∙ xor_zero_r y

sum_with : (r y u v : ℕ) → r ≡ bit_xor y u → u ≡ v → r ≡ bit_xor y v
sum_with r y u v er eu = er ∙ ap (bit_xor y) eu

three : (a b c d : ℕ) → bit_xor (bit_xor d c) (bit_xor b a) ≡ bit_xor d (bit_xor c (bit_xor b a))
three a b c d = xor_assoc d c (bit_xor b a)

step_0 : (k s t w constant x o y u r : List ℕ) (c : ℕ) → Step k s t w constant x o y u r c → state 0 r ≡ next_round_key c (state 0 k)
unfolding next_round_key
step_0 k s t w constant x o y u r c (es, ti, to, ew, (ci, co), ex, oi, oo, ey, ui, uo, er) =
    let x00 : octet_at x 0 ≡ bit_xor (octet_at k 0) (bit_xor (s_box (octet_at k 14)) c) = first_at (octet_at w 0) (octet_at k 0) (octet_at t 0)
    (octet_at x 0) (octet_at constant 0) (s_box (octet_at k 14)) c (ew 0 (omega arith)) (ti 0 (omega arith) (omega arith)
    ∙ es 14 (omega arith)) (ex 0 (omega arith)) (ci 0 (omega arith)) in
    let x01 : octet_at x 2 ≡ octet_at k 2 = plain_at (octet_at w 2) (octet_at k 2) (octet_at t 2) (octet_at x 2) (octet_at constant 2) (ew 2 (omega
    arith)) (to 2 (omega arith) (omega arith)) (ex 2 (omega arith)) (co 2 (omega arith) (omega arith)) in
    let x02 : octet_at x 4 ≡ octet_at k 4 = plain_at (octet_at w 4) (octet_at k 4) (octet_at t 4) (octet_at x 4) (octet_at constant 4) (ew 4 (omega
    arith)) (to 4 (omega arith) (omega arith)) (ex 4 (omega arith)) (co 4 (omega arith) (omega arith)) in
    let x03 : octet_at x 6 ≡ octet_at k 6 = plain_at (octet_at w 6) (octet_at k 6) (octet_at t 6) (octet_at x 6) (octet_at constant 6) (ew 6 (omega
    arith)) (to 6 (omega arith) (omega arith)) (ex 6 (omega arith)) (co 6 (omega arith) (omega arith)) in
    let y00 : octet_at y 0 ≡ bit_xor (octet_at k 0) (bit_xor (s_box (octet_at k 14)) c) = sum_none (octet_at y 0) (octet_at x 0) (octet_at o 0) (ey 0
    (omega arith)) (oo 0 (omega arith) (omega arith)) ∙ x00 in
    let y01 : octet_at y 2 ≡ bit_xor (octet_at k 2) (bit_xor (octet_at k 0) (bit_xor (s_box (octet_at k 14)) c)) = sum_with (octet_at y 2) (octet_at
    x 2) (octet_at o 2) (octet_at x 0) (ey 2 (omega arith)) (oi 2 (omega arith) (omega arith)) ∙ (λ i. bit_xor (x01 i) (x00 i)) in
    let y02 : octet_at y 4 ≡ bit_xor (octet_at k 4) (octet_at k 2) = sum_with (octet_at y 4) (octet_at x 4) (octet_at o 4) (octet_at x 2) (ey 4
    (omega arith)) (oi 4 (omega arith) (omega arith)) ∙ (λ i. bit_xor (x02 i) (x01 i)) in
    let y03 : octet_at y 6 ≡ bit_xor (octet_at k 6) (octet_at k 4) = sum_with (octet_at y 6) (octet_at x 6) (octet_at o 6) (octet_at x 4) (ey 6
    (omega arith)) (oi 6 (omega arith) (omega arith)) ∙ (λ i. bit_xor (x03 i) (x02 i)) in
    let x10 : octet_at x 8 ≡ bit_xor (octet_at k 8) (s_box (octet_at k 22)) = first_at (octet_at w 8) (octet_at k 8) (octet_at t 8) (octet_at x 8)
    (octet_at constant 8) (s_box (octet_at k 22)) 0 (ew 8 (omega arith)) (ti 8 (omega arith) (omega arith)
    ∙ es 22 (omega arith)) (ex 8 (omega arith)) (co 8 (omega arith) (omega arith)) ∙ ap (bit_xor (octet_at k 8)) (xor_zero_r (s_box (octet_at k 22)))
    in
    let x11 : octet_at x 10 ≡ octet_at k 10 = plain_at (octet_at w 10) (octet_at k 10) (octet_at t 10) (octet_at x 10) (octet_at constant 10) (ew 10
    (omega arith)) (to 10 (omega arith) (omega arith)) (ex 10 (omega arith)) (co 10 (omega arith) (omega arith)) in
    let x12 : octet_at x 12 ≡ octet_at k 12 = plain_at (octet_at w 12) (octet_at k 12) (octet_at t 12) (octet_at x 12) (octet_at constant 12) (ew 12
    (omega arith)) (to 12 (omega arith) (omega arith)) (ex 12 (omega arith)) (co 12 (omega arith) (omega arith)) in
    let x13 : octet_at x 14 ≡ octet_at k 14 = plain_at (octet_at w 14) (octet_at k 14) (octet_at t 14) (octet_at x 14) (octet_at constant 14) (ew 14
    (omega arith)) (to 14 (omega arith) (omega arith)) (ex 14 (omega arith)) (co 14 (omega arith) (omega arith)) in
    let y10 : octet_at y 8 ≡ bit_xor (octet_at k 8) (s_box (octet_at k 22)) = sum_none (octet_at y 8) (octet_at x 8) (octet_at o 8) (ey 8 (omega
    arith)) (oo 8 (omega arith) (omega arith)) ∙ x10 in
    let y11 : octet_at y 10 ≡ bit_xor (octet_at k 10) (bit_xor (octet_at k 8) (s_box (octet_at k 22))) = sum_with (octet_at y 10) (octet_at x 10)
    (octet_at o 10) (octet_at x 8) (ey 10 (omega arith)) (oi 10 (omega arith) (omega arith)) ∙ (λ i. bit_xor (x11 i) (x10 i)) in
    let y12 : octet_at y 12 ≡ bit_xor (octet_at k 12) (octet_at k 10) = sum_with (octet_at y 12) (octet_at x 12) (octet_at o 12) (octet_at x 10) (ey
    12 (omega arith)) (oi 12 (omega arith) (omega arith)) ∙ (λ i. bit_xor (x12 i) (x11 i)) in
    let y13 : octet_at y 14 ≡ bit_xor (octet_at k 14) (octet_at k 12) = sum_with (octet_at y 14) (octet_at x 14) (octet_at o 14) (octet_at x 12) (ey
    14 (omega arith)) (oi 14 (omega arith) (omega arith)) ∙ (λ i. bit_xor (x13 i) (x12 i)) in
    let x20 : octet_at x 16 ≡ bit_xor (octet_at k 16) (s_box (octet_at k 30)) = first_at (octet_at w 16) (octet_at k 16) (octet_at t 16) (octet_at x
    16) (octet_at constant 16) (s_box (octet_at k 30)) 0 (ew 16 (omega arith)) (ti 16 (omega arith) (omega arith)
    ∙ es 30 (omega arith)) (ex 16 (omega arith)) (co 16 (omega arith) (omega arith)) ∙ ap (bit_xor (octet_at k 16)) (xor_zero_r (s_box (octet_at k
    30))) in
    let x21 : octet_at x 18 ≡ octet_at k 18 = plain_at (octet_at w 18) (octet_at k 18) (octet_at t 18) (octet_at x 18) (octet_at constant 18) (ew 18
    (omega arith)) (to 18 (omega arith) (omega arith)) (ex 18 (omega arith)) (co 18 (omega arith) (omega arith)) in
    let x22 : octet_at x 20 ≡ octet_at k 20 = plain_at (octet_at w 20) (octet_at k 20) (octet_at t 20) (octet_at x 20) (octet_at constant 20) (ew 20
    (omega arith)) (to 20 (omega arith) (omega arith)) (ex 20 (omega arith)) (co 20 (omega arith) (omega arith)) in
    let x23 : octet_at x 22 ≡ octet_at k 22 = plain_at (octet_at w 22) (octet_at k 22) (octet_at t 22) (octet_at x 22) (octet_at constant 22) (ew 22
    (omega arith)) (to 22 (omega arith) (omega arith)) (ex 22 (omega arith)) (co 22 (omega arith) (omega arith)) in
    let y20 : octet_at y 16 ≡ bit_xor (octet_at k 16) (s_box (octet_at k 30)) = sum_none (octet_at y 16) (octet_at x 16) (octet_at o 16) (ey 16
    (omega arith)) (oo 16 (omega arith) (omega arith)) ∙ x20 in
    let y21 : octet_at y 18 ≡ bit_xor (octet_at k 18) (bit_xor (octet_at k 16) (s_box (octet_at k 30))) = sum_with (octet_at y 18) (octet_at x 18)
    (octet_at o 18) (octet_at x 16) (ey 18 (omega arith)) (oi 18 (omega arith) (omega arith)) ∙ (λ i. bit_xor (x21 i) (x20 i)) in
    let y22 : octet_at y 20 ≡ bit_xor (octet_at k 20) (octet_at k 18) = sum_with (octet_at y 20) (octet_at x 20) (octet_at o 20) (octet_at x 18) (ey
    20 (omega arith)) (oi 20 (omega arith) (omega arith)) ∙ (λ i. bit_xor (x22 i) (x21 i)) in
    let y23 : octet_at y 22 ≡ bit_xor (octet_at k 22) (octet_at k 20) = sum_with (octet_at y 22) (octet_at x 22) (octet_at o 22) (octet_at x 20) (ey
    22 (omega arith)) (oi 22 (omega arith) (omega arith)) ∙ (λ i. bit_xor (x23 i) (x22 i)) in
    let x30 : octet_at x 24 ≡ bit_xor (octet_at k 24) (s_box (octet_at k 6)) = first_at (octet_at w 24) (octet_at k 24) (octet_at t 24) (octet_at x
    24) (octet_at constant 24) (s_box (octet_at k 6)) 0 (ew 24 (omega arith)) (ti 24 (omega arith) (omega arith)
    ∙ es 6 (omega arith)) (ex 24 (omega arith)) (co 24 (omega arith) (omega arith)) ∙ ap (bit_xor (octet_at k 24)) (xor_zero_r (s_box (octet_at k
    6))) in
    let x31 : octet_at x 26 ≡ octet_at k 26 = plain_at (octet_at w 26) (octet_at k 26) (octet_at t 26) (octet_at x 26) (octet_at constant 26) (ew 26
    (omega arith)) (to 26 (omega arith) (omega arith)) (ex 26 (omega arith)) (co 26 (omega arith) (omega arith)) in
    let x32 : octet_at x 28 ≡ octet_at k 28 = plain_at (octet_at w 28) (octet_at k 28) (octet_at t 28) (octet_at x 28) (octet_at constant 28) (ew 28
    (omega arith)) (to 28 (omega arith) (omega arith)) (ex 28 (omega arith)) (co 28 (omega arith) (omega arith)) in
    let x33 : octet_at x 30 ≡ octet_at k 30 = plain_at (octet_at w 30) (octet_at k 30) (octet_at t 30) (octet_at x 30) (octet_at constant 30) (ew 30
    (omega arith)) (to 30 (omega arith) (omega arith)) (ex 30 (omega arith)) (co 30 (omega arith) (omega arith)) in
    let y30 : octet_at y 24 ≡ bit_xor (octet_at k 24) (s_box (octet_at k 6)) = sum_none (octet_at y 24) (octet_at x 24) (octet_at o 24) (ey 24 (omega
    arith)) (oo 24 (omega arith) (omega arith)) ∙ x30 in
    let y31 : octet_at y 26 ≡ bit_xor (octet_at k 26) (bit_xor (octet_at k 24) (s_box (octet_at k 6))) = sum_with (octet_at y 26) (octet_at x 26)
    (octet_at o 26) (octet_at x 24) (ey 26 (omega arith)) (oi 26 (omega arith) (omega arith)) ∙ (λ i. bit_xor (x31 i) (x30 i)) in
    let y32 : octet_at y 28 ≡ bit_xor (octet_at k 28) (octet_at k 26) = sum_with (octet_at y 28) (octet_at x 28) (octet_at o 28) (octet_at x 26) (ey
    28 (omega arith)) (oi 28 (omega arith) (omega arith)) ∙ (λ i. bit_xor (x32 i) (x31 i)) in
    let y33 : octet_at y 30 ≡ bit_xor (octet_at k 30) (octet_at k 28) = sum_with (octet_at y 30) (octet_at x 30) (octet_at o 30) (octet_at x 28) (ey
    30 (omega arith)) (oi 30 (omega arith) (omega arith)) ∙ (λ i. bit_xor (x33 i) (x32 i)) in
    λ i.
    (sum_none (octet_at r 0) (octet_at y 0) (octet_at u 0) (er 0 (omega arith)) (uo 0 (omega arith) (omega arith)) ∙ y00) i
    ∷ (sum_none (octet_at r 8) (octet_at y 8) (octet_at u 8) (er 8 (omega arith)) (uo 8 (omega arith) (omega arith)) ∙ y10) i
    ∷ (sum_none (octet_at r 16) (octet_at y 16) (octet_at u 16) (er 16 (omega arith)) (uo 16 (omega arith) (omega arith)) ∙ y20) i
    ∷ (sum_none (octet_at r 24) (octet_at y 24) (octet_at u 24) (er 24 (omega arith)) (uo 24 (omega arith) (omega arith)) ∙ y30) i
    ∷ (sum_none (octet_at r 2) (octet_at y 2) (octet_at u 2) (er 2 (omega arith)) (uo 2 (omega arith) (omega arith)) ∙ y01) i
    ∷ (sum_none (octet_at r 10) (octet_at y 10) (octet_at u 10) (er 10 (omega arith)) (uo 10 (omega arith) (omega arith)) ∙ y11) i
    ∷ (sum_none (octet_at r 18) (octet_at y 18) (octet_at u 18) (er 18 (omega arith)) (uo 18 (omega arith) (omega arith)) ∙ y21) i
    ∷ (sum_none (octet_at r 26) (octet_at y 26) (octet_at u 26) (er 26 (omega arith)) (uo 26 (omega arith) (omega arith)) ∙ y31) i
    ∷ (sum_with (octet_at r 4) (octet_at y 4) (octet_at u 4) (octet_at y 0) (er 4 (omega arith)) (ui 4 (omega arith) (omega arith))
    ∙ (λ j. bit_xor (y02 j) (y00 j)) ∙ xor_assoc (octet_at k 4) (octet_at k 2) (bit_xor (octet_at k 0) (bit_xor (s_box (octet_at k 14)) c))) i
    ∷ (sum_with (octet_at r 12) (octet_at y 12) (octet_at u 12) (octet_at y 8) (er 12 (omega arith)) (ui 12 (omega arith) (omega arith))
    ∙ (λ j. bit_xor (y12 j) (y10 j)) ∙ xor_assoc (octet_at k 12) (octet_at k 10) (bit_xor (octet_at k 8) (s_box (octet_at k 22)))) i
    ∷ (sum_with (octet_at r 20) (octet_at y 20) (octet_at u 20) (octet_at y 16) (er 20 (omega arith)) (ui 20 (omega arith) (omega arith))
    ∙ (λ j. bit_xor (y22 j) (y20 j)) ∙ xor_assoc (octet_at k 20) (octet_at k 18) (bit_xor (octet_at k 16) (s_box (octet_at k 30)))) i
    ∷ (sum_with (octet_at r 28) (octet_at y 28) (octet_at u 28) (octet_at y 24) (er 28 (omega arith)) (ui 28 (omega arith) (omega arith))
    ∙ (λ j. bit_xor (y32 j) (y30 j)) ∙ xor_assoc (octet_at k 28) (octet_at k 26) (bit_xor (octet_at k 24) (s_box (octet_at k 6)))) i
    ∷ (sum_with (octet_at r 6) (octet_at y 6) (octet_at u 6) (octet_at y 2) (er 6 (omega arith)) (ui 6 (omega arith) (omega arith))
    ∙ (λ j. bit_xor (y03 j) (y01 j)) ∙ xor_assoc (octet_at k 6) (octet_at k 4) (bit_xor (octet_at k 2) (bit_xor (octet_at k 0) (bit_xor (s_box
    (octet_at k 14)) c)))) i
    ∷ (sum_with (octet_at r 14) (octet_at y 14) (octet_at u 14) (octet_at y 10) (er 14 (omega arith)) (ui 14 (omega arith) (omega arith))
    ∙ (λ j. bit_xor (y13 j) (y11 j)) ∙ xor_assoc (octet_at k 14) (octet_at k 12) (bit_xor (octet_at k 10) (bit_xor (octet_at k 8) (s_box (octet_at k
    22))))) i
    ∷ (sum_with (octet_at r 22) (octet_at y 22) (octet_at u 22) (octet_at y 18) (er 22 (omega arith)) (ui 22 (omega arith) (omega arith))
    ∙ (λ j. bit_xor (y23 j) (y21 j)) ∙ xor_assoc (octet_at k 22) (octet_at k 20) (bit_xor (octet_at k 18) (bit_xor (octet_at k 16) (s_box (octet_at k
    30))))) i
    ∷ (sum_with (octet_at r 30) (octet_at y 30) (octet_at u 30) (octet_at y 26) (er 30 (omega arith)) (ui 30 (omega arith) (omega arith))
    ∙ (λ j. bit_xor (y33 j) (y31 j)) ∙ xor_assoc (octet_at k 30) (octet_at k 28) (bit_xor (octet_at k 26) (bit_xor (octet_at k 24) (s_box (octet_at k
    6))))) i ∷ []

step_1 : (k s t w constant x o y u r : List ℕ) (c : ℕ) → Step k s t w constant x o y u r c → state 1 r ≡ next_round_key c (state 1 k)
unfolding next_round_key
step_1 k s t w constant x o y u r c (es, ti, to, ew, (ci, co), ex, oi, oo, ey, ui, uo, er) =
    let x00 : octet_at x 1 ≡ bit_xor (octet_at k 1) (bit_xor (s_box (octet_at k 15)) c) = first_at (octet_at w 1) (octet_at k 1) (octet_at t 1)
    (octet_at x 1) (octet_at constant 1) (s_box (octet_at k 15)) c (ew 1 (omega arith)) (ti 1 (omega arith) (omega arith)
    ∙ es 15 (omega arith)) (ex 1 (omega arith)) (ci 1 (omega arith)) in
    let x01 : octet_at x 3 ≡ octet_at k 3 = plain_at (octet_at w 3) (octet_at k 3) (octet_at t 3) (octet_at x 3) (octet_at constant 3) (ew 3 (omega
    arith)) (to 3 (omega arith) (omega arith)) (ex 3 (omega arith)) (co 3 (omega arith) (omega arith)) in
    let x02 : octet_at x 5 ≡ octet_at k 5 = plain_at (octet_at w 5) (octet_at k 5) (octet_at t 5) (octet_at x 5) (octet_at constant 5) (ew 5 (omega
    arith)) (to 5 (omega arith) (omega arith)) (ex 5 (omega arith)) (co 5 (omega arith) (omega arith)) in
    let x03 : octet_at x 7 ≡ octet_at k 7 = plain_at (octet_at w 7) (octet_at k 7) (octet_at t 7) (octet_at x 7) (octet_at constant 7) (ew 7 (omega
    arith)) (to 7 (omega arith) (omega arith)) (ex 7 (omega arith)) (co 7 (omega arith) (omega arith)) in
    let y00 : octet_at y 1 ≡ bit_xor (octet_at k 1) (bit_xor (s_box (octet_at k 15)) c) = sum_none (octet_at y 1) (octet_at x 1) (octet_at o 1) (ey 1
    (omega arith)) (oo 1 (omega arith) (omega arith)) ∙ x00 in
    let y01 : octet_at y 3 ≡ bit_xor (octet_at k 3) (bit_xor (octet_at k 1) (bit_xor (s_box (octet_at k 15)) c)) = sum_with (octet_at y 3) (octet_at
    x 3) (octet_at o 3) (octet_at x 1) (ey 3 (omega arith)) (oi 3 (omega arith) (omega arith)) ∙ (λ i. bit_xor (x01 i) (x00 i)) in
    let y02 : octet_at y 5 ≡ bit_xor (octet_at k 5) (octet_at k 3) = sum_with (octet_at y 5) (octet_at x 5) (octet_at o 5) (octet_at x 3) (ey 5
    (omega arith)) (oi 5 (omega arith) (omega arith)) ∙ (λ i. bit_xor (x02 i) (x01 i)) in
    let y03 : octet_at y 7 ≡ bit_xor (octet_at k 7) (octet_at k 5) = sum_with (octet_at y 7) (octet_at x 7) (octet_at o 7) (octet_at x 5) (ey 7
    (omega arith)) (oi 7 (omega arith) (omega arith)) ∙ (λ i. bit_xor (x03 i) (x02 i)) in
    let x10 : octet_at x 9 ≡ bit_xor (octet_at k 9) (s_box (octet_at k 23)) = first_at (octet_at w 9) (octet_at k 9) (octet_at t 9) (octet_at x 9)
    (octet_at constant 9) (s_box (octet_at k 23)) 0 (ew 9 (omega arith)) (ti 9 (omega arith) (omega arith)
    ∙ es 23 (omega arith)) (ex 9 (omega arith)) (co 9 (omega arith) (omega arith)) ∙ ap (bit_xor (octet_at k 9)) (xor_zero_r (s_box (octet_at k 23)))
    in
    let x11 : octet_at x 11 ≡ octet_at k 11 = plain_at (octet_at w 11) (octet_at k 11) (octet_at t 11) (octet_at x 11) (octet_at constant 11) (ew 11
    (omega arith)) (to 11 (omega arith) (omega arith)) (ex 11 (omega arith)) (co 11 (omega arith) (omega arith)) in
    let x12 : octet_at x 13 ≡ octet_at k 13 = plain_at (octet_at w 13) (octet_at k 13) (octet_at t 13) (octet_at x 13) (octet_at constant 13) (ew 13
    (omega arith)) (to 13 (omega arith) (omega arith)) (ex 13 (omega arith)) (co 13 (omega arith) (omega arith)) in
    let x13 : octet_at x 15 ≡ octet_at k 15 = plain_at (octet_at w 15) (octet_at k 15) (octet_at t 15) (octet_at x 15) (octet_at constant 15) (ew 15
    (omega arith)) (to 15 (omega arith) (omega arith)) (ex 15 (omega arith)) (co 15 (omega arith) (omega arith)) in
    let y10 : octet_at y 9 ≡ bit_xor (octet_at k 9) (s_box (octet_at k 23)) = sum_none (octet_at y 9) (octet_at x 9) (octet_at o 9) (ey 9 (omega
    arith)) (oo 9 (omega arith) (omega arith)) ∙ x10 in
    let y11 : octet_at y 11 ≡ bit_xor (octet_at k 11) (bit_xor (octet_at k 9) (s_box (octet_at k 23))) = sum_with (octet_at y 11) (octet_at x 11)
    (octet_at o 11) (octet_at x 9) (ey 11 (omega arith)) (oi 11 (omega arith) (omega arith)) ∙ (λ i. bit_xor (x11 i) (x10 i)) in
    let y12 : octet_at y 13 ≡ bit_xor (octet_at k 13) (octet_at k 11) = sum_with (octet_at y 13) (octet_at x 13) (octet_at o 13) (octet_at x 11) (ey
    13 (omega arith)) (oi 13 (omega arith) (omega arith)) ∙ (λ i. bit_xor (x12 i) (x11 i)) in
    let y13 : octet_at y 15 ≡ bit_xor (octet_at k 15) (octet_at k 13) = sum_with (octet_at y 15) (octet_at x 15) (octet_at o 15) (octet_at x 13) (ey
    15 (omega arith)) (oi 15 (omega arith) (omega arith)) ∙ (λ i. bit_xor (x13 i) (x12 i)) in
    let x20 : octet_at x 17 ≡ bit_xor (octet_at k 17) (s_box (octet_at k 31)) = first_at (octet_at w 17) (octet_at k 17) (octet_at t 17) (octet_at x
    17) (octet_at constant 17) (s_box (octet_at k 31)) 0 (ew 17 (omega arith)) (ti 17 (omega arith) (omega arith)
    ∙ es 31 (omega arith)) (ex 17 (omega arith)) (co 17 (omega arith) (omega arith)) ∙ ap (bit_xor (octet_at k 17)) (xor_zero_r (s_box (octet_at k
    31))) in
    let x21 : octet_at x 19 ≡ octet_at k 19 = plain_at (octet_at w 19) (octet_at k 19) (octet_at t 19) (octet_at x 19) (octet_at constant 19) (ew 19
    (omega arith)) (to 19 (omega arith) (omega arith)) (ex 19 (omega arith)) (co 19 (omega arith) (omega arith)) in
    let x22 : octet_at x 21 ≡ octet_at k 21 = plain_at (octet_at w 21) (octet_at k 21) (octet_at t 21) (octet_at x 21) (octet_at constant 21) (ew 21
    (omega arith)) (to 21 (omega arith) (omega arith)) (ex 21 (omega arith)) (co 21 (omega arith) (omega arith)) in
    let x23 : octet_at x 23 ≡ octet_at k 23 = plain_at (octet_at w 23) (octet_at k 23) (octet_at t 23) (octet_at x 23) (octet_at constant 23) (ew 23
    (omega arith)) (to 23 (omega arith) (omega arith)) (ex 23 (omega arith)) (co 23 (omega arith) (omega arith)) in
    let y20 : octet_at y 17 ≡ bit_xor (octet_at k 17) (s_box (octet_at k 31)) = sum_none (octet_at y 17) (octet_at x 17) (octet_at o 17) (ey 17
    (omega arith)) (oo 17 (omega arith) (omega arith)) ∙ x20 in
    let y21 : octet_at y 19 ≡ bit_xor (octet_at k 19) (bit_xor (octet_at k 17) (s_box (octet_at k 31))) = sum_with (octet_at y 19) (octet_at x 19)
    (octet_at o 19) (octet_at x 17) (ey 19 (omega arith)) (oi 19 (omega arith) (omega arith)) ∙ (λ i. bit_xor (x21 i) (x20 i)) in
    let y22 : octet_at y 21 ≡ bit_xor (octet_at k 21) (octet_at k 19) = sum_with (octet_at y 21) (octet_at x 21) (octet_at o 21) (octet_at x 19) (ey
    21 (omega arith)) (oi 21 (omega arith) (omega arith)) ∙ (λ i. bit_xor (x22 i) (x21 i)) in
    let y23 : octet_at y 23 ≡ bit_xor (octet_at k 23) (octet_at k 21) = sum_with (octet_at y 23) (octet_at x 23) (octet_at o 23) (octet_at x 21) (ey
    23 (omega arith)) (oi 23 (omega arith) (omega arith)) ∙ (λ i. bit_xor (x23 i) (x22 i)) in
    let x30 : octet_at x 25 ≡ bit_xor (octet_at k 25) (s_box (octet_at k 7)) = first_at (octet_at w 25) (octet_at k 25) (octet_at t 25) (octet_at x
    25) (octet_at constant 25) (s_box (octet_at k 7)) 0 (ew 25 (omega arith)) (ti 25 (omega arith) (omega arith)
    ∙ es 7 (omega arith)) (ex 25 (omega arith)) (co 25 (omega arith) (omega arith)) ∙ ap (bit_xor (octet_at k 25)) (xor_zero_r (s_box (octet_at k
    7))) in
    let x31 : octet_at x 27 ≡ octet_at k 27 = plain_at (octet_at w 27) (octet_at k 27) (octet_at t 27) (octet_at x 27) (octet_at constant 27) (ew 27
    (omega arith)) (to 27 (omega arith) (omega arith)) (ex 27 (omega arith)) (co 27 (omega arith) (omega arith)) in
    let x32 : octet_at x 29 ≡ octet_at k 29 = plain_at (octet_at w 29) (octet_at k 29) (octet_at t 29) (octet_at x 29) (octet_at constant 29) (ew 29
    (omega arith)) (to 29 (omega arith) (omega arith)) (ex 29 (omega arith)) (co 29 (omega arith) (omega arith)) in
    let x33 : octet_at x 31 ≡ octet_at k 31 = plain_at (octet_at w 31) (octet_at k 31) (octet_at t 31) (octet_at x 31) (octet_at constant 31) (ew 31
    (omega arith)) (to 31 (omega arith) (omega arith)) (ex 31 (omega arith)) (co 31 (omega arith) (omega arith)) in
    let y30 : octet_at y 25 ≡ bit_xor (octet_at k 25) (s_box (octet_at k 7)) = sum_none (octet_at y 25) (octet_at x 25) (octet_at o 25) (ey 25 (omega
    arith)) (oo 25 (omega arith) (omega arith)) ∙ x30 in
    let y31 : octet_at y 27 ≡ bit_xor (octet_at k 27) (bit_xor (octet_at k 25) (s_box (octet_at k 7))) = sum_with (octet_at y 27) (octet_at x 27)
    (octet_at o 27) (octet_at x 25) (ey 27 (omega arith)) (oi 27 (omega arith) (omega arith)) ∙ (λ i. bit_xor (x31 i) (x30 i)) in
    let y32 : octet_at y 29 ≡ bit_xor (octet_at k 29) (octet_at k 27) = sum_with (octet_at y 29) (octet_at x 29) (octet_at o 29) (octet_at x 27) (ey
    29 (omega arith)) (oi 29 (omega arith) (omega arith)) ∙ (λ i. bit_xor (x32 i) (x31 i)) in
    let y33 : octet_at y 31 ≡ bit_xor (octet_at k 31) (octet_at k 29) = sum_with (octet_at y 31) (octet_at x 31) (octet_at o 31) (octet_at x 29) (ey
    31 (omega arith)) (oi 31 (omega arith) (omega arith)) ∙ (λ i. bit_xor (x33 i) (x32 i)) in
    λ i.
    (sum_none (octet_at r 1) (octet_at y 1) (octet_at u 1) (er 1 (omega arith)) (uo 1 (omega arith) (omega arith)) ∙ y00) i
    ∷ (sum_none (octet_at r 9) (octet_at y 9) (octet_at u 9) (er 9 (omega arith)) (uo 9 (omega arith) (omega arith)) ∙ y10) i
    ∷ (sum_none (octet_at r 17) (octet_at y 17) (octet_at u 17) (er 17 (omega arith)) (uo 17 (omega arith) (omega arith)) ∙ y20) i
    ∷ (sum_none (octet_at r 25) (octet_at y 25) (octet_at u 25) (er 25 (omega arith)) (uo 25 (omega arith) (omega arith)) ∙ y30) i
    ∷ (sum_none (octet_at r 3) (octet_at y 3) (octet_at u 3) (er 3 (omega arith)) (uo 3 (omega arith) (omega arith)) ∙ y01) i
    ∷ (sum_none (octet_at r 11) (octet_at y 11) (octet_at u 11) (er 11 (omega arith)) (uo 11 (omega arith) (omega arith)) ∙ y11) i
    ∷ (sum_none (octet_at r 19) (octet_at y 19) (octet_at u 19) (er 19 (omega arith)) (uo 19 (omega arith) (omega arith)) ∙ y21) i
    ∷ (sum_none (octet_at r 27) (octet_at y 27) (octet_at u 27) (er 27 (omega arith)) (uo 27 (omega arith) (omega arith)) ∙ y31) i
    ∷ (sum_with (octet_at r 5) (octet_at y 5) (octet_at u 5) (octet_at y 1) (er 5 (omega arith)) (ui 5 (omega arith) (omega arith))
    ∙ (λ j. bit_xor (y02 j) (y00 j)) ∙ xor_assoc (octet_at k 5) (octet_at k 3) (bit_xor (octet_at k 1) (bit_xor (s_box (octet_at k 15)) c))) i
    ∷ (sum_with (octet_at r 13) (octet_at y 13) (octet_at u 13) (octet_at y 9) (er 13 (omega arith)) (ui 13 (omega arith) (omega arith))
    ∙ (λ j. bit_xor (y12 j) (y10 j)) ∙ xor_assoc (octet_at k 13) (octet_at k 11) (bit_xor (octet_at k 9) (s_box (octet_at k 23)))) i
    ∷ (sum_with (octet_at r 21) (octet_at y 21) (octet_at u 21) (octet_at y 17) (er 21 (omega arith)) (ui 21 (omega arith) (omega arith))
    ∙ (λ j. bit_xor (y22 j) (y20 j)) ∙ xor_assoc (octet_at k 21) (octet_at k 19) (bit_xor (octet_at k 17) (s_box (octet_at k 31)))) i
    ∷ (sum_with (octet_at r 29) (octet_at y 29) (octet_at u 29) (octet_at y 25) (er 29 (omega arith)) (ui 29 (omega arith) (omega arith))
    ∙ (λ j. bit_xor (y32 j) (y30 j)) ∙ xor_assoc (octet_at k 29) (octet_at k 27) (bit_xor (octet_at k 25) (s_box (octet_at k 7)))) i
    ∷ (sum_with (octet_at r 7) (octet_at y 7) (octet_at u 7) (octet_at y 3) (er 7 (omega arith)) (ui 7 (omega arith) (omega arith))
    ∙ (λ j. bit_xor (y03 j) (y01 j)) ∙ xor_assoc (octet_at k 7) (octet_at k 5) (bit_xor (octet_at k 3) (bit_xor (octet_at k 1) (bit_xor (s_box
    (octet_at k 15)) c)))) i
    ∷ (sum_with (octet_at r 15) (octet_at y 15) (octet_at u 15) (octet_at y 11) (er 15 (omega arith)) (ui 15 (omega arith) (omega arith))
    ∙ (λ j. bit_xor (y13 j) (y11 j)) ∙ xor_assoc (octet_at k 15) (octet_at k 13) (bit_xor (octet_at k 11) (bit_xor (octet_at k 9) (s_box (octet_at k
    23))))) i
    ∷ (sum_with (octet_at r 23) (octet_at y 23) (octet_at u 23) (octet_at y 19) (er 23 (omega arith)) (ui 23 (omega arith) (omega arith))
    ∙ (λ j. bit_xor (y23 j) (y21 j)) ∙ xor_assoc (octet_at k 23) (octet_at k 21) (bit_xor (octet_at k 19) (bit_xor (octet_at k 17) (s_box (octet_at k
    31))))) i
    ∷ (sum_with (octet_at r 31) (octet_at y 31) (octet_at u 31) (octet_at y 27) (er 31 (omega arith)) (ui 31 (omega arith) (omega arith))
    ∙ (λ j. bit_xor (y33 j) (y31 j)) ∙ xor_assoc (octet_at k 31) (octet_at k 29) (bit_xor (octet_at k 27) (bit_xor (octet_at k 25) (s_box (octet_at k
    7))))) i ∷ []

pub step_is : (k s t w constant x o y u r : List ℕ) (c : ℕ) → Step k s t w constant x o y u r c → (b : ℕ) → b < 2 → state b r ≡ next_round_key c (state b k)
step_is k s t w constant x o y u r c h zero low = step_0 k s t w constant x o y u r c h
step_is k s t w constant x o y u r c h (suc zero) low = step_1 k s t w constant x o y u r c h
step_is k s t w constant x o y u r c h (suc (suc b)) low = absurd (omega (arith, low))

-- # The schedule

abbrev first_two : ℕ → ℕ
first_two p = 1 - min 1 (p / 2)

one_of : (c f : ℕ) → f ≡ 1 → c * f ≡ c
one_of c f e = ap (λ (g : ℕ). c * g) e ∙ omega arith

none_of : (c f : ℕ) → f ≡ 0 → c * f ≡ 0
none_of c f e = ap (λ (g : ℕ). c * g) e ∙ omega arith

pub constant_is : (c : ℕ) (ws : List ℕ) → map (octet_at ws) (range_with_len 0 32) ≡ map (λ (p : ℕ). c * first_two p) (range_with_len 0 32)
    → IsRoundConstant c ws
constant_is c ws e =
    let all : (p : ℕ) → p < 32 → octet_at ws p ≡ c * first_two p = at_32 (octet_at ws) (λ (p : ℕ). c * first_two p) e in
    (λ p low. all p (omega (arith, low)) ∙ one_of c (first_two p) (omega (arith, low)), λ p low h. all p low ∙ none_of c (first_two p) (omega (arith, h)))

pub next_key : (key k r : List ℕ) (n : ℕ) → ((b : ℕ) → b < 2 → state b k ≡ round_key key n)
    → ((b : ℕ) → b < 2 → state b r ≡ next_round_key (round_constant n) (state b k)) → (b : ℕ) → b < 2 → state b r ≡ round_key key (suc n)
next_key key k r n ek er b low = next_round_key_is key (state b k) (state b r) n (ek b low) (er b low)

abbrev pub Key_at : List ℕ → ℕ → List ℕ → Type 0
Key_at key n k = (b : ℕ) → b < 2 → state b k ≡ round_key key n

pub first_key_at : (key k : List ℕ) → state 0 k ≡ key → state 1 k ≡ key → Key_at key 0 k
first_key_at key k e f zero low = e ∙ round_key-zero key
first_key_at key k e f (suc zero) low = f ∙ round_key-zero key
first_key_at key k e f (suc (suc b)) low = absurd (omega (arith, low))

pub all_keys : (key k0 k1 k2 k3 k4 k5 k6 k7 k8 k9 k10 : List ℕ) → Key_at key 0 k0 → Key_at key 1 k1 → Key_at key 2 k2 → Key_at key 3 k3
    → Key_at key 4 k4 → Key_at key 5 k5 → Key_at key 6 k6 → Key_at key 7 k7 → Key_at key 8 k8 → Key_at key 9 k9 → Key_at key 10 k10
    → IsSlicedSchedule key (k0 ∷ k1 ∷ k2 ∷ k3 ∷ k4 ∷ k5 ∷ k6 ∷ k7 ∷ k8 ∷ k9 ∷ k10 ∷ [])
all_keys key k0 k1 k2 k3 k4 k5 k6 k7 k8 k9 k10 e0 e1 e2 e3 e4 e5 e6 e7 e8 e9 e10 zero low = e0
all_keys key k0 k1 k2 k3 k4 k5 k6 k7 k8 k9 k10 e0 e1 e2 e3 e4 e5 e6 e7 e8 e9 e10 (suc zero) low = e1
all_keys key k0 k1 k2 k3 k4 k5 k6 k7 k8 k9 k10 e0 e1 e2 e3 e4 e5 e6 e7 e8 e9 e10 (suc (suc zero)) low = e2
all_keys key k0 k1 k2 k3 k4 k5 k6 k7 k8 k9 k10 e0 e1 e2 e3 e4 e5 e6 e7 e8 e9 e10 (suc (suc (suc zero))) low = e3
all_keys key k0 k1 k2 k3 k4 k5 k6 k7 k8 k9 k10 e0 e1 e2 e3 e4 e5 e6 e7 e8 e9 e10 (suc (suc (suc (suc zero)))) low = e4
all_keys key k0 k1 k2 k3 k4 k5 k6 k7 k8 k9 k10 e0 e1 e2 e3 e4 e5 e6 e7 e8 e9 e10 (suc (suc (suc (suc (suc zero))))) low = e5
all_keys key k0 k1 k2 k3 k4 k5 k6 k7 k8 k9 k10 e0 e1 e2 e3 e4 e5 e6 e7 e8 e9 e10 (suc (suc (suc (suc (suc (suc zero)))))) low = e6
all_keys key k0 k1 k2 k3 k4 k5 k6 k7 k8 k9 k10 e0 e1 e2 e3 e4 e5 e6 e7 e8 e9 e10 (suc (suc (suc (suc (suc (suc (suc zero))))))) low = e7
all_keys key k0 k1 k2 k3 k4 k5 k6 k7 k8 k9 k10 e0 e1 e2 e3 e4 e5 e6 e7 e8 e9 e10 (suc (suc (suc (suc (suc (suc (suc (suc zero)))))))) low = e8
all_keys key k0 k1 k2 k3 k4 k5 k6 k7 k8 k9 k10 e0 e1 e2 e3 e4 e5 e6 e7 e8 e9 e10 (suc (suc (suc (suc (suc (suc (suc (suc (suc zero))))))))) low = e9
all_keys key k0 k1 k2 k3 k4 k5 k6 k7 k8 k9 k10 e0 e1 e2 e3 e4 e5 e6 e7 e8 e9 e10 (suc (suc (suc (suc (suc (suc (suc (suc (suc (suc zero)))))))))) low = e10
all_keys key k0 k1 k2 k3 k4 k5 k6 k7 k8 k9 k10 e0 e1 e2 e3 e4 e5 e6 e7 e8 e9 e10 (suc (suc (suc (suc (suc (suc (suc (suc (suc (suc (suc n)))))))))))
    low = absurd (omega (arith, low))
