-- AES-128 (FIPS 197) over lists of octets. A block, a state and a round key are lists of 16 octets;
-- octet r + 4 c of a state is in row r and column c (section 3.4).
use Rattle.std.specs.Prelude.{ℕ, zero, suc, ◌+◌, ◌*◌, ◌%◌, List, [], ◌∷◌, ◌++◌, map, bit_xor, slice_index}
use Rattle.std.specs.List.{range_with_len}
use Rattle.aes_modes.specs.Field.{times_x, product, s_box}

-- the sums of the octets at each place, as far as both lists go
abbrev pub xor_bytes : List ℕ → List ℕ → List ℕ
xor_bytes (x ∷ xs) (y ∷ ys) = bit_xor x y ∷ xor_bytes xs ys
xor_bytes _ _ = []

-- SubBytes (section 5.1.1)
abbrev pub sub_bytes : List ℕ → List ℕ
sub_bytes s = map s_box s

-- ShiftRows: row r of column c comes from column c + r (section 5.1.2)
abbrev pub shift_rows : List ℕ → List ℕ
shift_rows s = map (λ k. slice_index s ((k + 4 * (k % 4)) % 16)) (range_with_len 0 16)

-- MixColumns of the column a, b, c, d (section 5.1.3)
abbrev pub mixed_column : ℕ → ℕ → ℕ → ℕ → List ℕ
mixed_column a b c d =
    bit_xor (bit_xor (bit_xor (product 2 a) (product 3 b)) c) d
    ∷ bit_xor (bit_xor (bit_xor a (product 2 b)) (product 3 c)) d
    ∷ bit_xor (bit_xor (bit_xor a b) (product 2 c)) (product 3 d)
    ∷ bit_xor (bit_xor (bit_xor (product 3 a) b) c) (product 2 d) ∷ []

-- the same of the column of a state that begins at place i
abbrev pub mix_column : List ℕ → ℕ → List ℕ
mix_column s i = mixed_column (slice_index s i) (slice_index s (i + 1)) (slice_index s (i + 2)) (slice_index s (i + 3))

-- MixColumns (section 5.1.3)
abbrev pub mix_columns : List ℕ → List ℕ
mix_columns s = mix_column s 0 ++ mix_column s 4 ++ mix_column s 8 ++ mix_column s 12

-- a round with the round key k (section 5.1)
unfoldable pub round : List ℕ → List ℕ → List ℕ
round k s = xor_bytes (mix_columns (shift_rows (sub_bytes s))) k

-- the last round, which has no MixColumns (section 5.1)
unfoldable pub last_round : List ℕ → List ℕ → List ℕ
last_round k s = xor_bytes (shift_rows (sub_bytes s)) k

-- the first octet of Rcon of round n + 1: x to the n (section 5.2)
abbrev pub round_constant : ℕ → ℕ
round_constant zero = 1
round_constant (suc n) = times_x (round_constant n)

-- the word at place i of a round key
abbrev pub word : List ℕ → ℕ → List ℕ
word k i = slice_index k i ∷ slice_index k (i + 1) ∷ slice_index k (i + 2) ∷ slice_index k (i + 3) ∷ []

-- the round key after k: each word is the sum of the word before it and the one four before, and the
-- first takes the last word of k through RotWord, SubWord and Rcon (section 5.2)
unfoldable pub next_round_key : ℕ → List ℕ → List ℕ
next_round_key c k =
    let temp =
    bit_xor (s_box (slice_index k 13)) c ∷ s_box (slice_index k 14) ∷ s_box (slice_index k 15)
    ∷ s_box (slice_index k 12) ∷ [] in
    let w0 = xor_bytes (word k 0) temp in
    let w1 = xor_bytes (word k 4) w0 in
    let w2 = xor_bytes (word k 8) w1 in
    let w3 = xor_bytes (word k 12) w2 in
    w0 ++ w1 ++ w2 ++ w3

-- the round key of round n under a key (section 5.2)
unfoldable pub round_key : List ℕ → ℕ → List ℕ
round_key key zero = key
round_key key (suc n) = next_round_key (round_constant n) (round_key key n)

-- the state after n rounds (section 5.1)
unfoldable pub state_after : List ℕ → List ℕ → ℕ → List ℕ
state_after key block zero = xor_bytes block (round_key key 0)
state_after key block (suc n) = round (round_key key (suc n)) (state_after key block n)

-- the block that AES-128 makes of a block under a key (section 5.1)
unfoldable pub encrypted : List ℕ → List ℕ → List ℕ
encrypted key block = last_round (round_key key 10) (state_after key block 9)
