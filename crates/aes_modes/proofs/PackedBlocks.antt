-- Blocks in eight words, and back.
use Rattle.std.proofs.Common.{◌≡◌, ℕ, zero, suc, ◌+◌, ◌*◌, ◌/◌, ◌%◌, ◌<◌, List, [], ◌∷◌, ◌++◌, get_or, length, sym, ap, ◌∙◌, arith}
use Rattle.std.specs.Int.{bit_at, w32, to_le_bytes}
use Rattle.aes_modes.specs.Sliced.{octet, octet_at, state}
use Rattle.aes_modes.proofs.Written.{spelled}

pub four_octets : (a b c d : ℕ) → a < 256 → b < 256 → c < 256 → d < 256 → (i : ℕ) → get_or (a ∷ b ∷ c ∷ d ∷ []) i 0 < 256
four_octets a b c d la lb lc ld zero = la
four_octets a b c d la lb lc ld (suc zero) = lb
four_octets a b c d la lb lc ld (suc (suc zero)) = lc
four_octets a b c d la lb lc ld (suc (suc (suc zero))) = ld
four_octets a b c d la lb lc ld (suc (suc (suc (suc i)))) = omega arith

byte_0 : (w : ℕ) → octet (bit_at w 0 ∷ bit_at w 1 ∷ bit_at w 2 ∷ bit_at w 3 ∷ bit_at w 4 ∷ bit_at w 5 ∷ bit_at w 6 ∷ bit_at w 7
    ∷ []) ≡ get_or (to_le_bytes w32 w) 0 0
byte_0 w = omega arith

byte_1 : (w : ℕ) → octet (bit_at w 8 ∷ bit_at w 9 ∷ bit_at w 10 ∷ bit_at w 11 ∷ bit_at w 12 ∷ bit_at w 13 ∷ bit_at w 14 ∷ bit_at w 15
    ∷ []) ≡ get_or (to_le_bytes w32 w) 1 0
byte_1 w = omega arith

byte_2 : (w : ℕ) → octet (bit_at w 16 ∷ bit_at w 17 ∷ bit_at w 18 ∷ bit_at w 19 ∷ bit_at w 20 ∷ bit_at w 21 ∷ bit_at w 22 ∷ bit_at w 23
    ∷ []) ≡ get_or (to_le_bytes w32 w) 2 0
byte_2 w = omega arith

byte_3 : (w : ℕ) → octet (bit_at w 24 ∷ bit_at w 25 ∷ bit_at w 26 ∷ bit_at w 27 ∷ bit_at w 28 ∷ bit_at w 29 ∷ bit_at w 30 ∷ bit_at w 31
    ∷ []) ≡ get_or (to_le_bytes w32 w) 3 0
byte_3 w = omega arith

-- the octet across the words at place p is octet p / 8 of word p % 8 of those that were turned
pub packed_0 : (q t : List ℕ) (x : List ℕ) → length t ≡ 8 → length x ≡ 16
    → ((p : ℕ) → p < 32 → bit_at (get_or t 0 0) p ≡ bit_at (get_or q (p % 8) 0) (8 * (p / 8) + 0))
    → ((p : ℕ) → p < 32 → bit_at (get_or t 1 0) p ≡ bit_at (get_or q (p % 8) 0) (8 * (p / 8) + 1))
    → ((p : ℕ) → p < 32 → bit_at (get_or t 2 0) p ≡ bit_at (get_or q (p % 8) 0) (8 * (p / 8) + 2))
    → ((p : ℕ) → p < 32 → bit_at (get_or t 3 0) p ≡ bit_at (get_or q (p % 8) 0) (8 * (p / 8) + 3))
    → ((p : ℕ) → p < 32 → bit_at (get_or t 4 0) p ≡ bit_at (get_or q (p % 8) 0) (8 * (p / 8) + 4))
    → ((p : ℕ) → p < 32 → bit_at (get_or t 5 0) p ≡ bit_at (get_or q (p % 8) 0) (8 * (p / 8) + 5))
    → ((p : ℕ) → p < 32 → bit_at (get_or t 6 0) p ≡ bit_at (get_or q (p % 8) 0) (8 * (p / 8) + 6))
    → ((p : ℕ) → p < 32 → bit_at (get_or t 7 0) p ≡ bit_at (get_or q (p % 8) 0) (8 * (p / 8) + 7))
    → to_le_bytes w32 (get_or q 0 0) ≡ get_or x 0 0 ∷ get_or x 1 0 ∷ get_or x 2 0 ∷ get_or x 3 0 ∷ []
    → to_le_bytes w32 (get_or q 2 0) ≡ get_or x 4 0 ∷ get_or x 5 0 ∷ get_or x 6 0 ∷ get_or x 7 0 ∷ []
    → to_le_bytes w32 (get_or q 4 0) ≡ get_or x 8 0 ∷ get_or x 9 0 ∷ get_or x 10 0 ∷ get_or x 11 0 ∷ []
    → to_le_bytes w32 (get_or q 6 0) ≡ get_or x 12 0 ∷ get_or x 13 0 ∷ get_or x 14 0 ∷ get_or x 15 0 ∷ []
    → state 0 t ≡ x
packed_0 q t x lt lx e0 e1 e2 e3 e4 e5 e6 e7 b0 b1 b2 b3 =
    let own : (p : ℕ) → octet_at t p ≡ octet (bit_at (get_or t 0 0) p ∷ bit_at (get_or t 1 0) p ∷ bit_at (get_or t 2 0) p ∷ bit_at (get_or t 3 0) p
    ∷ bit_at (get_or t 4 0) p ∷ bit_at (get_or t 5 0) p ∷ bit_at (get_or t 6 0) p ∷ bit_at (get_or t 7 0) p
    ∷ []) = λ p. ap (λ (ws : List ℕ). octet_at ws p) (sym (spelled 8 t lt)) in
    (λ i.
    (own 0 ∙ (λ j. octet (e0 0 (omega arith) j ∷ e1 0 (omega arith) j ∷ e2 0 (omega arith) j ∷ e3 0 (omega arith) j ∷ e4 0 (omega arith) j
    ∷ e5 0 (omega arith) j ∷ e6 0 (omega arith) j ∷ e7 0 (omega arith) j ∷ [])) ∙ byte_0 (get_or q 0 0) ∙ ap (λ (bs : List ℕ). get_or bs 0 0) b0) i
    ∷ (own 8 ∙ (λ j. octet (e0 8 (omega arith) j ∷ e1 8 (omega arith) j ∷ e2 8 (omega arith) j ∷ e3 8 (omega arith) j ∷ e4 8 (omega arith) j
    ∷ e5 8 (omega arith) j ∷ e6 8 (omega arith) j ∷ e7 8 (omega arith) j ∷ [])) ∙ byte_1 (get_or q 0 0) ∙ ap (λ (bs : List ℕ). get_or bs 1 0) b0) i
    ∷ (own 16 ∙ (λ j. octet (e0 16 (omega arith) j ∷ e1 16 (omega arith) j ∷ e2 16 (omega arith) j ∷ e3 16 (omega arith) j ∷ e4 16 (omega arith) j
    ∷ e5 16 (omega arith) j ∷ e6 16 (omega arith) j ∷ e7 16 (omega arith) j ∷ [])) ∙ byte_2 (get_or q 0 0) ∙ ap (λ (bs : List ℕ). get_or bs 2 0) b0) i
    ∷ (own 24 ∙ (λ j. octet (e0 24 (omega arith) j ∷ e1 24 (omega arith) j ∷ e2 24 (omega arith) j ∷ e3 24 (omega arith) j ∷ e4 24 (omega arith) j
    ∷ e5 24 (omega arith) j ∷ e6 24 (omega arith) j ∷ e7 24 (omega arith) j ∷ [])) ∙ byte_3 (get_or q 0 0) ∙ ap (λ (bs : List ℕ). get_or bs 3 0) b0) i
    ∷ (own 2 ∙ (λ j. octet (e0 2 (omega arith) j ∷ e1 2 (omega arith) j ∷ e2 2 (omega arith) j ∷ e3 2 (omega arith) j ∷ e4 2 (omega arith) j
    ∷ e5 2 (omega arith) j ∷ e6 2 (omega arith) j ∷ e7 2 (omega arith) j ∷ [])) ∙ byte_0 (get_or q 2 0) ∙ ap (λ (bs : List ℕ). get_or bs 0 0) b1) i
    ∷ (own 10 ∙ (λ j. octet (e0 10 (omega arith) j ∷ e1 10 (omega arith) j ∷ e2 10 (omega arith) j ∷ e3 10 (omega arith) j ∷ e4 10 (omega arith) j
    ∷ e5 10 (omega arith) j ∷ e6 10 (omega arith) j ∷ e7 10 (omega arith) j ∷ [])) ∙ byte_1 (get_or q 2 0) ∙ ap (λ (bs : List ℕ). get_or bs 1 0) b1) i
    ∷ (own 18 ∙ (λ j. octet (e0 18 (omega arith) j ∷ e1 18 (omega arith) j ∷ e2 18 (omega arith) j ∷ e3 18 (omega arith) j ∷ e4 18 (omega arith) j
    ∷ e5 18 (omega arith) j ∷ e6 18 (omega arith) j ∷ e7 18 (omega arith) j ∷ [])) ∙ byte_2 (get_or q 2 0) ∙ ap (λ (bs : List ℕ). get_or bs 2 0) b1) i
    ∷ (own 26 ∙ (λ j. octet (e0 26 (omega arith) j ∷ e1 26 (omega arith) j ∷ e2 26 (omega arith) j ∷ e3 26 (omega arith) j ∷ e4 26 (omega arith) j
    ∷ e5 26 (omega arith) j ∷ e6 26 (omega arith) j ∷ e7 26 (omega arith) j ∷ [])) ∙ byte_3 (get_or q 2 0) ∙ ap (λ (bs : List ℕ). get_or bs 3 0) b1) i
    ∷ (own 4 ∙ (λ j. octet (e0 4 (omega arith) j ∷ e1 4 (omega arith) j ∷ e2 4 (omega arith) j ∷ e3 4 (omega arith) j ∷ e4 4 (omega arith) j
    ∷ e5 4 (omega arith) j ∷ e6 4 (omega arith) j ∷ e7 4 (omega arith) j ∷ [])) ∙ byte_0 (get_or q 4 0) ∙ ap (λ (bs : List ℕ). get_or bs 0 0) b2) i
    ∷ (own 12 ∙ (λ j. octet (e0 12 (omega arith) j ∷ e1 12 (omega arith) j ∷ e2 12 (omega arith) j ∷ e3 12 (omega arith) j ∷ e4 12 (omega arith) j
    ∷ e5 12 (omega arith) j ∷ e6 12 (omega arith) j ∷ e7 12 (omega arith) j ∷ [])) ∙ byte_1 (get_or q 4 0) ∙ ap (λ (bs : List ℕ). get_or bs 1 0) b2) i
    ∷ (own 20 ∙ (λ j. octet (e0 20 (omega arith) j ∷ e1 20 (omega arith) j ∷ e2 20 (omega arith) j ∷ e3 20 (omega arith) j ∷ e4 20 (omega arith) j
    ∷ e5 20 (omega arith) j ∷ e6 20 (omega arith) j ∷ e7 20 (omega arith) j ∷ [])) ∙ byte_2 (get_or q 4 0) ∙ ap (λ (bs : List ℕ). get_or bs 2 0) b2) i
    ∷ (own 28 ∙ (λ j. octet (e0 28 (omega arith) j ∷ e1 28 (omega arith) j ∷ e2 28 (omega arith) j ∷ e3 28 (omega arith) j ∷ e4 28 (omega arith) j
    ∷ e5 28 (omega arith) j ∷ e6 28 (omega arith) j ∷ e7 28 (omega arith) j ∷ [])) ∙ byte_3 (get_or q 4 0) ∙ ap (λ (bs : List ℕ). get_or bs 3 0) b2) i
    ∷ (own 6 ∙ (λ j. octet (e0 6 (omega arith) j ∷ e1 6 (omega arith) j ∷ e2 6 (omega arith) j ∷ e3 6 (omega arith) j ∷ e4 6 (omega arith) j
    ∷ e5 6 (omega arith) j ∷ e6 6 (omega arith) j ∷ e7 6 (omega arith) j ∷ [])) ∙ byte_0 (get_or q 6 0) ∙ ap (λ (bs : List ℕ). get_or bs 0 0) b3) i
    ∷ (own 14 ∙ (λ j. octet (e0 14 (omega arith) j ∷ e1 14 (omega arith) j ∷ e2 14 (omega arith) j ∷ e3 14 (omega arith) j ∷ e4 14 (omega arith) j
    ∷ e5 14 (omega arith) j ∷ e6 14 (omega arith) j ∷ e7 14 (omega arith) j ∷ [])) ∙ byte_1 (get_or q 6 0) ∙ ap (λ (bs : List ℕ). get_or bs 1 0) b3) i
    ∷ (own 22 ∙ (λ j. octet (e0 22 (omega arith) j ∷ e1 22 (omega arith) j ∷ e2 22 (omega arith) j ∷ e3 22 (omega arith) j ∷ e4 22 (omega arith) j
    ∷ e5 22 (omega arith) j ∷ e6 22 (omega arith) j ∷ e7 22 (omega arith) j ∷ [])) ∙ byte_2 (get_or q 6 0) ∙ ap (λ (bs : List ℕ). get_or bs 2 0) b3) i
    ∷ (own 30 ∙ (λ j. octet (e0 30 (omega arith) j ∷ e1 30 (omega arith) j ∷ e2 30 (omega arith) j ∷ e3 30 (omega arith) j ∷ e4 30 (omega arith) j
    ∷ e5 30 (omega arith) j ∷ e6 30 (omega arith) j ∷ e7 30 (omega arith) j ∷ [])) ∙ byte_3 (get_or q 6 0)
    ∙ ap (λ (bs : List ℕ). get_or bs 3 0) b3) i ∷ [])
    ∙ spelled 16 x lx

pub unpacked_0 : (q t : List ℕ) → length q ≡ 8
    → ((p : ℕ) → p < 32 → bit_at (get_or t 0 0) p ≡ bit_at (get_or q (p % 8) 0) (8 * (p / 8) + 0))
    → ((p : ℕ) → p < 32 → bit_at (get_or t 1 0) p ≡ bit_at (get_or q (p % 8) 0) (8 * (p / 8) + 1))
    → ((p : ℕ) → p < 32 → bit_at (get_or t 2 0) p ≡ bit_at (get_or q (p % 8) 0) (8 * (p / 8) + 2))
    → ((p : ℕ) → p < 32 → bit_at (get_or t 3 0) p ≡ bit_at (get_or q (p % 8) 0) (8 * (p / 8) + 3))
    → ((p : ℕ) → p < 32 → bit_at (get_or t 4 0) p ≡ bit_at (get_or q (p % 8) 0) (8 * (p / 8) + 4))
    → ((p : ℕ) → p < 32 → bit_at (get_or t 5 0) p ≡ bit_at (get_or q (p % 8) 0) (8 * (p / 8) + 5))
    → ((p : ℕ) → p < 32 → bit_at (get_or t 6 0) p ≡ bit_at (get_or q (p % 8) 0) (8 * (p / 8) + 6))
    → ((p : ℕ) → p < 32 → bit_at (get_or t 7 0) p ≡ bit_at (get_or q (p % 8) 0) (8 * (p / 8) + 7))
    → to_le_bytes w32 (get_or t 0 0) ++ to_le_bytes w32 (get_or t 2 0) ++ to_le_bytes w32 (get_or t 4 0) ++ to_le_bytes w32 (get_or t 6 0) ≡ state 0 q
unpacked_0 q t lq e0 e1 e2 e3 e4 e5 e6 e7 =
    let own : (p : ℕ) → octet (bit_at (get_or q 0 0) p ∷ bit_at (get_or q 1 0) p ∷ bit_at (get_or q 2 0) p ∷ bit_at (get_or q 3 0) p
    ∷ bit_at (get_or q 4 0) p ∷ bit_at (get_or q 5 0) p ∷ bit_at (get_or q 6 0) p ∷ bit_at (get_or q 7 0) p
    ∷ []) ≡ octet_at q p = λ p. ap (λ (ws : List ℕ). octet_at ws p) (spelled 8 q lq) in
    λ i.
    (sym (byte_0 (get_or t 0 0)) ∙ (λ j. octet (e0 0 (omega arith) j ∷ e0 1 (omega arith) j ∷ e0 2 (omega arith) j ∷ e0 3 (omega arith) j
    ∷ e0 4 (omega arith) j ∷ e0 5 (omega arith) j ∷ e0 6 (omega arith) j ∷ e0 7 (omega arith) j ∷ [])) ∙ own 0) i
    ∷ (sym (byte_1 (get_or t 0 0)) ∙ (λ j. octet (e0 8 (omega arith) j ∷ e0 9 (omega arith) j ∷ e0 10 (omega arith) j ∷ e0 11 (omega arith) j
    ∷ e0 12 (omega arith) j ∷ e0 13 (omega arith) j ∷ e0 14 (omega arith) j ∷ e0 15 (omega arith) j ∷ [])) ∙ own 8) i
    ∷ (sym (byte_2 (get_or t 0 0)) ∙ (λ j. octet (e0 16 (omega arith) j ∷ e0 17 (omega arith) j ∷ e0 18 (omega arith) j ∷ e0 19 (omega arith) j
    ∷ e0 20 (omega arith) j ∷ e0 21 (omega arith) j ∷ e0 22 (omega arith) j ∷ e0 23 (omega arith) j ∷ [])) ∙ own 16) i
    ∷ (sym (byte_3 (get_or t 0 0)) ∙ (λ j. octet (e0 24 (omega arith) j ∷ e0 25 (omega arith) j ∷ e0 26 (omega arith) j ∷ e0 27 (omega arith) j
    ∷ e0 28 (omega arith) j ∷ e0 29 (omega arith) j ∷ e0 30 (omega arith) j ∷ e0 31 (omega arith) j ∷ [])) ∙ own 24) i
    ∷ (sym (byte_0 (get_or t 2 0)) ∙ (λ j. octet (e2 0 (omega arith) j ∷ e2 1 (omega arith) j ∷ e2 2 (omega arith) j ∷ e2 3 (omega arith) j
    ∷ e2 4 (omega arith) j ∷ e2 5 (omega arith) j ∷ e2 6 (omega arith) j ∷ e2 7 (omega arith) j ∷ [])) ∙ own 2) i
    ∷ (sym (byte_1 (get_or t 2 0)) ∙ (λ j. octet (e2 8 (omega arith) j ∷ e2 9 (omega arith) j ∷ e2 10 (omega arith) j ∷ e2 11 (omega arith) j
    ∷ e2 12 (omega arith) j ∷ e2 13 (omega arith) j ∷ e2 14 (omega arith) j ∷ e2 15 (omega arith) j ∷ [])) ∙ own 10) i
    ∷ (sym (byte_2 (get_or t 2 0)) ∙ (λ j. octet (e2 16 (omega arith) j ∷ e2 17 (omega arith) j ∷ e2 18 (omega arith) j ∷ e2 19 (omega arith) j
    ∷ e2 20 (omega arith) j ∷ e2 21 (omega arith) j ∷ e2 22 (omega arith) j ∷ e2 23 (omega arith) j ∷ [])) ∙ own 18) i
    ∷ (sym (byte_3 (get_or t 2 0)) ∙ (λ j. octet (e2 24 (omega arith) j ∷ e2 25 (omega arith) j ∷ e2 26 (omega arith) j ∷ e2 27 (omega arith) j
    ∷ e2 28 (omega arith) j ∷ e2 29 (omega arith) j ∷ e2 30 (omega arith) j ∷ e2 31 (omega arith) j ∷ [])) ∙ own 26) i
    ∷ (sym (byte_0 (get_or t 4 0)) ∙ (λ j. octet (e4 0 (omega arith) j ∷ e4 1 (omega arith) j ∷ e4 2 (omega arith) j ∷ e4 3 (omega arith) j
    ∷ e4 4 (omega arith) j ∷ e4 5 (omega arith) j ∷ e4 6 (omega arith) j ∷ e4 7 (omega arith) j ∷ [])) ∙ own 4) i
    ∷ (sym (byte_1 (get_or t 4 0)) ∙ (λ j. octet (e4 8 (omega arith) j ∷ e4 9 (omega arith) j ∷ e4 10 (omega arith) j ∷ e4 11 (omega arith) j
    ∷ e4 12 (omega arith) j ∷ e4 13 (omega arith) j ∷ e4 14 (omega arith) j ∷ e4 15 (omega arith) j ∷ [])) ∙ own 12) i
    ∷ (sym (byte_2 (get_or t 4 0)) ∙ (λ j. octet (e4 16 (omega arith) j ∷ e4 17 (omega arith) j ∷ e4 18 (omega arith) j ∷ e4 19 (omega arith) j
    ∷ e4 20 (omega arith) j ∷ e4 21 (omega arith) j ∷ e4 22 (omega arith) j ∷ e4 23 (omega arith) j ∷ [])) ∙ own 20) i
    ∷ (sym (byte_3 (get_or t 4 0)) ∙ (λ j. octet (e4 24 (omega arith) j ∷ e4 25 (omega arith) j ∷ e4 26 (omega arith) j ∷ e4 27 (omega arith) j
    ∷ e4 28 (omega arith) j ∷ e4 29 (omega arith) j ∷ e4 30 (omega arith) j ∷ e4 31 (omega arith) j ∷ [])) ∙ own 28) i
    ∷ (sym (byte_0 (get_or t 6 0)) ∙ (λ j. octet (e6 0 (omega arith) j ∷ e6 1 (omega arith) j ∷ e6 2 (omega arith) j ∷ e6 3 (omega arith) j
    ∷ e6 4 (omega arith) j ∷ e6 5 (omega arith) j ∷ e6 6 (omega arith) j ∷ e6 7 (omega arith) j ∷ [])) ∙ own 6) i
    ∷ (sym (byte_1 (get_or t 6 0)) ∙ (λ j. octet (e6 8 (omega arith) j ∷ e6 9 (omega arith) j ∷ e6 10 (omega arith) j ∷ e6 11 (omega arith) j
    ∷ e6 12 (omega arith) j ∷ e6 13 (omega arith) j ∷ e6 14 (omega arith) j ∷ e6 15 (omega arith) j ∷ [])) ∙ own 14) i
    ∷ (sym (byte_2 (get_or t 6 0)) ∙ (λ j. octet (e6 16 (omega arith) j ∷ e6 17 (omega arith) j ∷ e6 18 (omega arith) j ∷ e6 19 (omega arith) j
    ∷ e6 20 (omega arith) j ∷ e6 21 (omega arith) j ∷ e6 22 (omega arith) j ∷ e6 23 (omega arith) j ∷ [])) ∙ own 22) i
    ∷ (sym (byte_3 (get_or t 6 0)) ∙ (λ j. octet (e6 24 (omega arith) j ∷ e6 25 (omega arith) j ∷ e6 26 (omega arith) j ∷ e6 27 (omega arith) j
    ∷ e6 28 (omega arith) j ∷ e6 29 (omega arith) j ∷ e6 30 (omega arith) j ∷ e6 31 (omega arith) j ∷ [])) ∙ own 30) i ∷ []

pub packed_1 : (q t : List ℕ) (x : List ℕ) → length t ≡ 8 → length x ≡ 16
    → ((p : ℕ) → p < 32 → bit_at (get_or t 0 0) p ≡ bit_at (get_or q (p % 8) 0) (8 * (p / 8) + 0))
    → ((p : ℕ) → p < 32 → bit_at (get_or t 1 0) p ≡ bit_at (get_or q (p % 8) 0) (8 * (p / 8) + 1))
    → ((p : ℕ) → p < 32 → bit_at (get_or t 2 0) p ≡ bit_at (get_or q (p % 8) 0) (8 * (p / 8) + 2))
    → ((p : ℕ) → p < 32 → bit_at (get_or t 3 0) p ≡ bit_at (get_or q (p % 8) 0) (8 * (p / 8) + 3))
    → ((p : ℕ) → p < 32 → bit_at (get_or t 4 0) p ≡ bit_at (get_or q (p % 8) 0) (8 * (p / 8) + 4))
    → ((p : ℕ) → p < 32 → bit_at (get_or t 5 0) p ≡ bit_at (get_or q (p % 8) 0) (8 * (p / 8) + 5))
    → ((p : ℕ) → p < 32 → bit_at (get_or t 6 0) p ≡ bit_at (get_or q (p % 8) 0) (8 * (p / 8) + 6))
    → ((p : ℕ) → p < 32 → bit_at (get_or t 7 0) p ≡ bit_at (get_or q (p % 8) 0) (8 * (p / 8) + 7))
    → to_le_bytes w32 (get_or q 1 0) ≡ get_or x 0 0 ∷ get_or x 1 0 ∷ get_or x 2 0 ∷ get_or x 3 0 ∷ []
    → to_le_bytes w32 (get_or q 3 0) ≡ get_or x 4 0 ∷ get_or x 5 0 ∷ get_or x 6 0 ∷ get_or x 7 0 ∷ []
    → to_le_bytes w32 (get_or q 5 0) ≡ get_or x 8 0 ∷ get_or x 9 0 ∷ get_or x 10 0 ∷ get_or x 11 0 ∷ []
    → to_le_bytes w32 (get_or q 7 0) ≡ get_or x 12 0 ∷ get_or x 13 0 ∷ get_or x 14 0 ∷ get_or x 15 0 ∷ []
    → state 1 t ≡ x
packed_1 q t x lt lx e0 e1 e2 e3 e4 e5 e6 e7 b0 b1 b2 b3 =
    let own : (p : ℕ) → octet_at t p ≡ octet (bit_at (get_or t 0 0) p ∷ bit_at (get_or t 1 0) p ∷ bit_at (get_or t 2 0) p ∷ bit_at (get_or t 3 0) p
    ∷ bit_at (get_or t 4 0) p ∷ bit_at (get_or t 5 0) p ∷ bit_at (get_or t 6 0) p ∷ bit_at (get_or t 7 0) p
    ∷ []) = λ p. ap (λ (ws : List ℕ). octet_at ws p) (sym (spelled 8 t lt)) in
    (λ i.
    (own 1 ∙ (λ j. octet (e0 1 (omega arith) j ∷ e1 1 (omega arith) j ∷ e2 1 (omega arith) j ∷ e3 1 (omega arith) j ∷ e4 1 (omega arith) j
    ∷ e5 1 (omega arith) j ∷ e6 1 (omega arith) j ∷ e7 1 (omega arith) j ∷ [])) ∙ byte_0 (get_or q 1 0) ∙ ap (λ (bs : List ℕ). get_or bs 0 0) b0) i
    ∷ (own 9 ∙ (λ j. octet (e0 9 (omega arith) j ∷ e1 9 (omega arith) j ∷ e2 9 (omega arith) j ∷ e3 9 (omega arith) j ∷ e4 9 (omega arith) j
    ∷ e5 9 (omega arith) j ∷ e6 9 (omega arith) j ∷ e7 9 (omega arith) j ∷ [])) ∙ byte_1 (get_or q 1 0) ∙ ap (λ (bs : List ℕ). get_or bs 1 0) b0) i
    ∷ (own 17 ∙ (λ j. octet (e0 17 (omega arith) j ∷ e1 17 (omega arith) j ∷ e2 17 (omega arith) j ∷ e3 17 (omega arith) j ∷ e4 17 (omega arith) j
    ∷ e5 17 (omega arith) j ∷ e6 17 (omega arith) j ∷ e7 17 (omega arith) j ∷ [])) ∙ byte_2 (get_or q 1 0) ∙ ap (λ (bs : List ℕ). get_or bs 2 0) b0) i
    ∷ (own 25 ∙ (λ j. octet (e0 25 (omega arith) j ∷ e1 25 (omega arith) j ∷ e2 25 (omega arith) j ∷ e3 25 (omega arith) j ∷ e4 25 (omega arith) j
    ∷ e5 25 (omega arith) j ∷ e6 25 (omega arith) j ∷ e7 25 (omega arith) j ∷ [])) ∙ byte_3 (get_or q 1 0) ∙ ap (λ (bs : List ℕ). get_or bs 3 0) b0) i
    ∷ (own 3 ∙ (λ j. octet (e0 3 (omega arith) j ∷ e1 3 (omega arith) j ∷ e2 3 (omega arith) j ∷ e3 3 (omega arith) j ∷ e4 3 (omega arith) j
    ∷ e5 3 (omega arith) j ∷ e6 3 (omega arith) j ∷ e7 3 (omega arith) j ∷ [])) ∙ byte_0 (get_or q 3 0) ∙ ap (λ (bs : List ℕ). get_or bs 0 0) b1) i
    ∷ (own 11 ∙ (λ j. octet (e0 11 (omega arith) j ∷ e1 11 (omega arith) j ∷ e2 11 (omega arith) j ∷ e3 11 (omega arith) j ∷ e4 11 (omega arith) j
    ∷ e5 11 (omega arith) j ∷ e6 11 (omega arith) j ∷ e7 11 (omega arith) j ∷ [])) ∙ byte_1 (get_or q 3 0) ∙ ap (λ (bs : List ℕ). get_or bs 1 0) b1) i
    ∷ (own 19 ∙ (λ j. octet (e0 19 (omega arith) j ∷ e1 19 (omega arith) j ∷ e2 19 (omega arith) j ∷ e3 19 (omega arith) j ∷ e4 19 (omega arith) j
    ∷ e5 19 (omega arith) j ∷ e6 19 (omega arith) j ∷ e7 19 (omega arith) j ∷ [])) ∙ byte_2 (get_or q 3 0) ∙ ap (λ (bs : List ℕ). get_or bs 2 0) b1) i
    ∷ (own 27 ∙ (λ j. octet (e0 27 (omega arith) j ∷ e1 27 (omega arith) j ∷ e2 27 (omega arith) j ∷ e3 27 (omega arith) j ∷ e4 27 (omega arith) j
    ∷ e5 27 (omega arith) j ∷ e6 27 (omega arith) j ∷ e7 27 (omega arith) j ∷ [])) ∙ byte_3 (get_or q 3 0) ∙ ap (λ (bs : List ℕ). get_or bs 3 0) b1) i
    ∷ (own 5 ∙ (λ j. octet (e0 5 (omega arith) j ∷ e1 5 (omega arith) j ∷ e2 5 (omega arith) j ∷ e3 5 (omega arith) j ∷ e4 5 (omega arith) j
    ∷ e5 5 (omega arith) j ∷ e6 5 (omega arith) j ∷ e7 5 (omega arith) j ∷ [])) ∙ byte_0 (get_or q 5 0) ∙ ap (λ (bs : List ℕ). get_or bs 0 0) b2) i
    ∷ (own 13 ∙ (λ j. octet (e0 13 (omega arith) j ∷ e1 13 (omega arith) j ∷ e2 13 (omega arith) j ∷ e3 13 (omega arith) j ∷ e4 13 (omega arith) j
    ∷ e5 13 (omega arith) j ∷ e6 13 (omega arith) j ∷ e7 13 (omega arith) j ∷ [])) ∙ byte_1 (get_or q 5 0) ∙ ap (λ (bs : List ℕ). get_or bs 1 0) b2) i
    ∷ (own 21 ∙ (λ j. octet (e0 21 (omega arith) j ∷ e1 21 (omega arith) j ∷ e2 21 (omega arith) j ∷ e3 21 (omega arith) j ∷ e4 21 (omega arith) j
    ∷ e5 21 (omega arith) j ∷ e6 21 (omega arith) j ∷ e7 21 (omega arith) j ∷ [])) ∙ byte_2 (get_or q 5 0) ∙ ap (λ (bs : List ℕ). get_or bs 2 0) b2) i
    ∷ (own 29 ∙ (λ j. octet (e0 29 (omega arith) j ∷ e1 29 (omega arith) j ∷ e2 29 (omega arith) j ∷ e3 29 (omega arith) j ∷ e4 29 (omega arith) j
    ∷ e5 29 (omega arith) j ∷ e6 29 (omega arith) j ∷ e7 29 (omega arith) j ∷ [])) ∙ byte_3 (get_or q 5 0) ∙ ap (λ (bs : List ℕ). get_or bs 3 0) b2) i
    ∷ (own 7 ∙ (λ j. octet (e0 7 (omega arith) j ∷ e1 7 (omega arith) j ∷ e2 7 (omega arith) j ∷ e3 7 (omega arith) j ∷ e4 7 (omega arith) j
    ∷ e5 7 (omega arith) j ∷ e6 7 (omega arith) j ∷ e7 7 (omega arith) j ∷ [])) ∙ byte_0 (get_or q 7 0) ∙ ap (λ (bs : List ℕ). get_or bs 0 0) b3) i
    ∷ (own 15 ∙ (λ j. octet (e0 15 (omega arith) j ∷ e1 15 (omega arith) j ∷ e2 15 (omega arith) j ∷ e3 15 (omega arith) j ∷ e4 15 (omega arith) j
    ∷ e5 15 (omega arith) j ∷ e6 15 (omega arith) j ∷ e7 15 (omega arith) j ∷ [])) ∙ byte_1 (get_or q 7 0) ∙ ap (λ (bs : List ℕ). get_or bs 1 0) b3) i
    ∷ (own 23 ∙ (λ j. octet (e0 23 (omega arith) j ∷ e1 23 (omega arith) j ∷ e2 23 (omega arith) j ∷ e3 23 (omega arith) j ∷ e4 23 (omega arith) j
    ∷ e5 23 (omega arith) j ∷ e6 23 (omega arith) j ∷ e7 23 (omega arith) j ∷ [])) ∙ byte_2 (get_or q 7 0) ∙ ap (λ (bs : List ℕ). get_or bs 2 0) b3) i
    ∷ (own 31 ∙ (λ j. octet (e0 31 (omega arith) j ∷ e1 31 (omega arith) j ∷ e2 31 (omega arith) j ∷ e3 31 (omega arith) j ∷ e4 31 (omega arith) j
    ∷ e5 31 (omega arith) j ∷ e6 31 (omega arith) j ∷ e7 31 (omega arith) j ∷ [])) ∙ byte_3 (get_or q 7 0)
    ∙ ap (λ (bs : List ℕ). get_or bs 3 0) b3) i ∷ [])
    ∙ spelled 16 x lx

pub unpacked_1 : (q t : List ℕ) → length q ≡ 8
    → ((p : ℕ) → p < 32 → bit_at (get_or t 0 0) p ≡ bit_at (get_or q (p % 8) 0) (8 * (p / 8) + 0))
    → ((p : ℕ) → p < 32 → bit_at (get_or t 1 0) p ≡ bit_at (get_or q (p % 8) 0) (8 * (p / 8) + 1))
    → ((p : ℕ) → p < 32 → bit_at (get_or t 2 0) p ≡ bit_at (get_or q (p % 8) 0) (8 * (p / 8) + 2))
    → ((p : ℕ) → p < 32 → bit_at (get_or t 3 0) p ≡ bit_at (get_or q (p % 8) 0) (8 * (p / 8) + 3))
    → ((p : ℕ) → p < 32 → bit_at (get_or t 4 0) p ≡ bit_at (get_or q (p % 8) 0) (8 * (p / 8) + 4))
    → ((p : ℕ) → p < 32 → bit_at (get_or t 5 0) p ≡ bit_at (get_or q (p % 8) 0) (8 * (p / 8) + 5))
    → ((p : ℕ) → p < 32 → bit_at (get_or t 6 0) p ≡ bit_at (get_or q (p % 8) 0) (8 * (p / 8) + 6))
    → ((p : ℕ) → p < 32 → bit_at (get_or t 7 0) p ≡ bit_at (get_or q (p % 8) 0) (8 * (p / 8) + 7))
    → to_le_bytes w32 (get_or t 1 0) ++ to_le_bytes w32 (get_or t 3 0) ++ to_le_bytes w32 (get_or t 5 0) ++ to_le_bytes w32 (get_or t 7 0) ≡ state 1 q
unpacked_1 q t lq e0 e1 e2 e3 e4 e5 e6 e7 =
    let own : (p : ℕ) → octet (bit_at (get_or q 0 0) p ∷ bit_at (get_or q 1 0) p ∷ bit_at (get_or q 2 0) p ∷ bit_at (get_or q 3 0) p
    ∷ bit_at (get_or q 4 0) p ∷ bit_at (get_or q 5 0) p ∷ bit_at (get_or q 6 0) p ∷ bit_at (get_or q 7 0) p
    ∷ []) ≡ octet_at q p = λ p. ap (λ (ws : List ℕ). octet_at ws p) (spelled 8 q lq) in
    λ i.
    (sym (byte_0 (get_or t 1 0)) ∙ (λ j. octet (e1 0 (omega arith) j ∷ e1 1 (omega arith) j ∷ e1 2 (omega arith) j ∷ e1 3 (omega arith) j
    ∷ e1 4 (omega arith) j ∷ e1 5 (omega arith) j ∷ e1 6 (omega arith) j ∷ e1 7 (omega arith) j ∷ [])) ∙ own 1) i
    ∷ (sym (byte_1 (get_or t 1 0)) ∙ (λ j. octet (e1 8 (omega arith) j ∷ e1 9 (omega arith) j ∷ e1 10 (omega arith) j ∷ e1 11 (omega arith) j
    ∷ e1 12 (omega arith) j ∷ e1 13 (omega arith) j ∷ e1 14 (omega arith) j ∷ e1 15 (omega arith) j ∷ [])) ∙ own 9) i
    ∷ (sym (byte_2 (get_or t 1 0)) ∙ (λ j. octet (e1 16 (omega arith) j ∷ e1 17 (omega arith) j ∷ e1 18 (omega arith) j ∷ e1 19 (omega arith) j
    ∷ e1 20 (omega arith) j ∷ e1 21 (omega arith) j ∷ e1 22 (omega arith) j ∷ e1 23 (omega arith) j ∷ [])) ∙ own 17) i
    ∷ (sym (byte_3 (get_or t 1 0)) ∙ (λ j. octet (e1 24 (omega arith) j ∷ e1 25 (omega arith) j ∷ e1 26 (omega arith) j ∷ e1 27 (omega arith) j
    ∷ e1 28 (omega arith) j ∷ e1 29 (omega arith) j ∷ e1 30 (omega arith) j ∷ e1 31 (omega arith) j ∷ [])) ∙ own 25) i
    ∷ (sym (byte_0 (get_or t 3 0)) ∙ (λ j. octet (e3 0 (omega arith) j ∷ e3 1 (omega arith) j ∷ e3 2 (omega arith) j ∷ e3 3 (omega arith) j
    ∷ e3 4 (omega arith) j ∷ e3 5 (omega arith) j ∷ e3 6 (omega arith) j ∷ e3 7 (omega arith) j ∷ [])) ∙ own 3) i
    ∷ (sym (byte_1 (get_or t 3 0)) ∙ (λ j. octet (e3 8 (omega arith) j ∷ e3 9 (omega arith) j ∷ e3 10 (omega arith) j ∷ e3 11 (omega arith) j
    ∷ e3 12 (omega arith) j ∷ e3 13 (omega arith) j ∷ e3 14 (omega arith) j ∷ e3 15 (omega arith) j ∷ [])) ∙ own 11) i
    ∷ (sym (byte_2 (get_or t 3 0)) ∙ (λ j. octet (e3 16 (omega arith) j ∷ e3 17 (omega arith) j ∷ e3 18 (omega arith) j ∷ e3 19 (omega arith) j
    ∷ e3 20 (omega arith) j ∷ e3 21 (omega arith) j ∷ e3 22 (omega arith) j ∷ e3 23 (omega arith) j ∷ [])) ∙ own 19) i
    ∷ (sym (byte_3 (get_or t 3 0)) ∙ (λ j. octet (e3 24 (omega arith) j ∷ e3 25 (omega arith) j ∷ e3 26 (omega arith) j ∷ e3 27 (omega arith) j
    ∷ e3 28 (omega arith) j ∷ e3 29 (omega arith) j ∷ e3 30 (omega arith) j ∷ e3 31 (omega arith) j ∷ [])) ∙ own 27) i
    ∷ (sym (byte_0 (get_or t 5 0)) ∙ (λ j. octet (e5 0 (omega arith) j ∷ e5 1 (omega arith) j ∷ e5 2 (omega arith) j ∷ e5 3 (omega arith) j
    ∷ e5 4 (omega arith) j ∷ e5 5 (omega arith) j ∷ e5 6 (omega arith) j ∷ e5 7 (omega arith) j ∷ [])) ∙ own 5) i
    ∷ (sym (byte_1 (get_or t 5 0)) ∙ (λ j. octet (e5 8 (omega arith) j ∷ e5 9 (omega arith) j ∷ e5 10 (omega arith) j ∷ e5 11 (omega arith) j
    ∷ e5 12 (omega arith) j ∷ e5 13 (omega arith) j ∷ e5 14 (omega arith) j ∷ e5 15 (omega arith) j ∷ [])) ∙ own 13) i
    ∷ (sym (byte_2 (get_or t 5 0)) ∙ (λ j. octet (e5 16 (omega arith) j ∷ e5 17 (omega arith) j ∷ e5 18 (omega arith) j ∷ e5 19 (omega arith) j
    ∷ e5 20 (omega arith) j ∷ e5 21 (omega arith) j ∷ e5 22 (omega arith) j ∷ e5 23 (omega arith) j ∷ [])) ∙ own 21) i
    ∷ (sym (byte_3 (get_or t 5 0)) ∙ (λ j. octet (e5 24 (omega arith) j ∷ e5 25 (omega arith) j ∷ e5 26 (omega arith) j ∷ e5 27 (omega arith) j
    ∷ e5 28 (omega arith) j ∷ e5 29 (omega arith) j ∷ e5 30 (omega arith) j ∷ e5 31 (omega arith) j ∷ [])) ∙ own 29) i
    ∷ (sym (byte_0 (get_or t 7 0)) ∙ (λ j. octet (e7 0 (omega arith) j ∷ e7 1 (omega arith) j ∷ e7 2 (omega arith) j ∷ e7 3 (omega arith) j
    ∷ e7 4 (omega arith) j ∷ e7 5 (omega arith) j ∷ e7 6 (omega arith) j ∷ e7 7 (omega arith) j ∷ [])) ∙ own 7) i
    ∷ (sym (byte_1 (get_or t 7 0)) ∙ (λ j. octet (e7 8 (omega arith) j ∷ e7 9 (omega arith) j ∷ e7 10 (omega arith) j ∷ e7 11 (omega arith) j
    ∷ e7 12 (omega arith) j ∷ e7 13 (omega arith) j ∷ e7 14 (omega arith) j ∷ e7 15 (omega arith) j ∷ [])) ∙ own 15) i
    ∷ (sym (byte_2 (get_or t 7 0)) ∙ (λ j. octet (e7 16 (omega arith) j ∷ e7 17 (omega arith) j ∷ e7 18 (omega arith) j ∷ e7 19 (omega arith) j
    ∷ e7 20 (omega arith) j ∷ e7 21 (omega arith) j ∷ e7 22 (omega arith) j ∷ e7 23 (omega arith) j ∷ [])) ∙ own 23) i
    ∷ (sym (byte_3 (get_or t 7 0)) ∙ (λ j. octet (e7 24 (omega arith) j ∷ e7 25 (omega arith) j ∷ e7 26 (omega arith) j ∷ e7 27 (omega arith) j
    ∷ e7 28 (omega arith) j ∷ e7 29 (omega arith) j ∷ e7 30 (omega arith) j ∷ e7 31 (omega arith) j ∷ [])) ∙ own 31) i ∷ []
