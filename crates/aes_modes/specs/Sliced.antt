-- AES of two blocks in eight words: word j has bit j of each octet of both states.
use Rattle.std.specs.Prelude.{◌≡◌, ◌<◌, ◌≤◌, slice_index_or, ℕ, ◌+◌, ◌*◌, ◌-◌, ◌/◌, ◌%◌, ◌==◌, List, [], ◌∷◌, map, bit_xor, bit_and}
use mathlib.Core.Bool.{cond}
use Rattle.std.specs.List.{range_with_len}
use Rattle.aes_modes.specs.Field.{product}
use Rattle.aes_modes.specs.Cipher.{round_key}
use Rattle.std.specs.Int.{bit_at}

-- the S-box as a circuit of 113 gates (Boyar and Peralta), over words or over single bits: u7 is the lowest bit of the input, and the outputs
-- begin with the lowest; ones has a 1 wherever the inputs may have one
unfoldable pub circuit : ℕ → ℕ → ℕ → ℕ → ℕ → ℕ → ℕ → ℕ → ℕ → List ℕ
circuit ones u7 u6 u5 u4 u3 u2 u1 u0 =
    let y14 = bit_xor u3 u5 in
    let y13 = bit_xor u0 u6 in
    let y12 = bit_xor y13 y14 in
    let t1 = bit_xor u4 y12 in
    let y15 = bit_xor t1 u5 in
    let t2 = bit_and y12 y15 in
    let y6 = bit_xor y15 u7 in
    let y20 = bit_xor t1 u1 in
    let y9 = bit_xor u0 u3 in
    let y11 = bit_xor y20 y9 in
    let t12 = bit_and y9 y11 in
    let y7 = bit_xor u7 y11 in
    let y8 = bit_xor u0 u5 in
    let t0 = bit_xor u1 u2 in
    let y10 = bit_xor y15 t0 in
    let y17 = bit_xor y10 y11 in
    let t13 = bit_and y14 y17 in
    let t14 = bit_xor t13 t12 in
    let y19 = bit_xor y10 y8 in
    let t15 = bit_and y8 y10 in
    let t16 = bit_xor t15 t12 in
    let y16 = bit_xor t0 y11 in
    let y21 = bit_xor y13 y16 in
    let t7 = bit_and y13 y16 in
    let y18 = bit_xor u0 y16 in
    let y1 = bit_xor t0 u7 in
    let y4 = bit_xor y1 u3 in
    let t5 = bit_and y4 u7 in
    let t6 = bit_xor t5 t2 in
    let t18 = bit_xor t6 t16 in
    let t22 = bit_xor t18 y19 in
    let y2 = bit_xor y1 u0 in
    let t10 = bit_and y2 y7 in
    let t11 = bit_xor t10 t7 in
    let t20 = bit_xor t11 t16 in
    let t24 = bit_xor t20 y18 in
    let y5 = bit_xor y1 u6 in
    let t8 = bit_and y5 y1 in
    let t9 = bit_xor t8 t7 in
    let t19 = bit_xor t9 t14 in
    let t23 = bit_xor t19 y21 in
    let y3 = bit_xor y5 y8 in
    let t3 = bit_and y3 y6 in
    let t4 = bit_xor t3 t2 in
    let t17 = bit_xor t4 y20 in
    let t21 = bit_xor t17 t14 in
    let t26 = bit_and t21 t23 in
    let t27 = bit_xor t24 t26 in
    let t31 = bit_xor t22 t26 in
    let t25 = bit_xor t21 t22 in
    let t28 = bit_and t25 t27 in
    let t29 = bit_xor t28 t22 in
    let z14 = bit_and t29 y2 in
    let z5 = bit_and t29 y7 in
    let t30 = bit_xor t23 t24 in
    let t32 = bit_and t31 t30 in
    let t33 = bit_xor t32 t24 in
    let t35 = bit_xor t27 t33 in
    let t36 = bit_and t24 t35 in
    let t38 = bit_xor t27 t36 in
    let t39 = bit_and t29 t38 in
    let t40 = bit_xor t25 t39 in
    let t43 = bit_xor t29 t40 in
    let z3 = bit_and t43 y16 in
    let tc12 = bit_xor z3 z5 in
    let z12 = bit_and t43 y13 in
    let z13 = bit_and t40 y5 in
    let z4 = bit_and t40 y1 in
    let tc6 = bit_xor z3 z4 in
    let t34 = bit_xor t23 t33 in
    let t37 = bit_xor t36 t34 in
    let t41 = bit_xor t40 t37 in
    let z8 = bit_and t41 y10 in
    let z17 = bit_and t41 y8 in
    let t44 = bit_xor t33 t37 in
    let z0 = bit_and t44 y15 in
    let z9 = bit_and t44 y12 in
    let z10 = bit_and t37 y3 in
    let z1 = bit_and t37 y6 in
    let tc5 = bit_xor z1 z0 in
    let tc11 = bit_xor tc6 tc5 in
    let z11 = bit_and t33 y4 in
    let t42 = bit_xor t29 t33 in
    let t45 = bit_xor t42 t41 in
    let z7 = bit_and t45 y17 in
    let tc8 = bit_xor z7 tc6 in
    let z16 = bit_and t45 y14 in
    let z6 = bit_and t42 y11 in
    let tc16 = bit_xor z6 tc8 in
    let z15 = bit_and t42 y9 in
    let tc20 = bit_xor z15 tc16 in
    let tc1 = bit_xor z15 z16 in
    let tc2 = bit_xor z10 tc1 in
    let tc21 = bit_xor tc2 z11 in
    let tc3 = bit_xor z9 tc2 in
    let s0 = bit_xor tc3 tc16 in
    let s3 = bit_xor tc3 tc11 in
    let s1 = bit_xor s3 tc16 in
    let tc13 = bit_xor z13 tc1 in
    let z2 = bit_and t33 u7 in
    let tc4 = bit_xor z0 z2 in
    let tc7 = bit_xor z12 tc4 in
    let tc9 = bit_xor z8 tc7 in
    let tc10 = bit_xor tc8 tc9 in
    let tc17 = bit_xor z14 tc10 in
    let s5 = bit_xor tc21 tc17 in
    let tc26 = bit_xor tc17 tc20 in
    let s2 = bit_xor tc26 z17 in
    let tc14 = bit_xor tc4 tc12 in
    let tc18 = bit_xor tc13 tc14 in
    let s6 = bit_xor tc10 tc18 in
    let s7 = bit_xor z12 tc18 in
    let s4 = bit_xor tc14 s3 in
    bit_xor s7 ones ∷ bit_xor s6 ones ∷ s5 ∷ s4 ∷ s3 ∷ bit_xor s2 ones ∷ bit_xor s1 ones ∷ s0 ∷ []

-- the octet of these bits, lowest first
abbrev pub octet : List ℕ → ℕ
octet [] = 0
octet (b ∷ bs) = b + 2 * octet bs

-- bit i of each of the words
abbrev pub lane : ℕ → List ℕ → List ℕ
lane i ws = map (λ (w : ℕ). bit_at w i) ws

-- where octet k of block b stands in each word: it is row k mod 4 of column k / 4
abbrev pub place : ℕ → ℕ → ℕ
place b k = 8 * (k % 4) + 2 * (k / 4) + b

-- the octet that stands at bit p of the words
abbrev pub octet_at : List ℕ → ℕ → ℕ
octet_at ws p = octet (lane p ws)

-- the 16 octets of block b
abbrev pub state : ℕ → List ℕ → List ℕ
state b ws = map (λ (k : ℕ). octet_at ws (place b k)) (range_with_len 0 16)

-- where ShiftRows takes a bit of a word from
abbrev pub shifted_from : ℕ → ℕ
shifted_from p = 8 * (p / 8) + (p % 8 + 2 * (p / 8)) % 8

-- MixColumns of one octet, from it and those of the three rows after it
abbrev pub mixed_octet : ℕ → ℕ → ℕ → ℕ → ℕ
mixed_octet a b c d = bit_xor (bit_xor (product 2 a) (product 3 b)) (bit_xor c d)

-- two words after an exchange of the bits of the first at places whose bit n is set with those of the second at the others: bit p of each
abbrev pub crossed_first : ℕ → ℕ → ℕ → ℕ → ℕ
crossed_first n a b p = cond (p / n % 2 == 0) (bit_at a p) (bit_at b (p - n))

abbrev pub crossed_second : ℕ → ℕ → ℕ → ℕ → ℕ
crossed_second n a b p = cond (p / n % 2 == 0) (bit_at a (n + p)) (bit_at b p)

-- the round keys of a key, each sliced, the same for both blocks
abbrev pub IsSlicedSchedule : List ℕ → List (List ℕ) → Type 0
IsSlicedSchedule key keys = (n : ℕ) → n < 11 → (b : ℕ) → b < 2 → state b (slice_index_or keys n []) ≡ round_key key n

-- the constant of a round, in the first row of the first column of both blocks
abbrev pub IsRoundConstant : ℕ → List ℕ → Type 0
IsRoundConstant c ws = ((p : ℕ) → p < 2 → octet_at ws p ≡ c) × ((p : ℕ) → p < 32 → 2 ≤ p → octet_at ws p ≡ 0)
