-- CMAC with AES-128 (RFC 4493).
use Rattle.std.specs.Prelude.{ℕ, ◌-◌, ◌*◌, ◌/◌, ◌%◌, ◌^◌, ◌==◌, nat_lt, List, ◌∷◌, ◌++◌, length, drop, replicate, bit_xor, if◌then◌else◌}
use Rattle.std.specs.Int.{w128, to_be_bytes, from_be_bytes}
use Rattle.aes_modes.specs.Cipher.{xor_bytes, encrypted}
use Rattle.aes_modes.specs.Chains.{zero_block, chained}

-- twice an element of GF(2^128), as a number, modulo x^128 + x^7 + x^2 + x + 1 (section 2.3)
abbrev pub doubled : ℕ → ℕ
doubled n = if nat_lt n (2 ^ 127) then 2 * n else bit_xor (2 * n % 2 ^ 128) 0x87

-- the subkey K1, as a number (section 2.3)
abbrev pub first_subkey : List ℕ → ℕ
first_subkey key = doubled (from_be_bytes w128 (encrypted key zero_block))

-- the subkey K2, as a number (section 2.3)
abbrev pub second_subkey : List ℕ → ℕ
second_subkey key = doubled (first_subkey key)

-- M_last, from the octets of the last block: a whole one with K1, and else one padded by a bit 1 and
-- zeros with K2 (section 2.4)
unfoldable pub last_block : List ℕ → List ℕ → List ℕ
last_block key r =
    if length r == 16 then xor_bytes r (to_be_bytes w128 (first_subkey key))
    else xor_bytes (r ++ 0x80 ∷ replicate (15 - length r) 0) (to_be_bytes w128 (second_subkey key))

-- the number of blocks of m before its last one; the empty text has one block (section 2.4)
abbrev pub blocks_before : List ℕ → ℕ
blocks_before m = (length m - 1) / 16

-- the tag of m under a key, of 16 octets (section 2.4)
unfoldable pub cmac : List ℕ → List ℕ → List ℕ
cmac key m =
    encrypted key
    (xor_bytes (chained key zero_block m (blocks_before m)) (last_block key (drop (16 * blocks_before m) m)))
