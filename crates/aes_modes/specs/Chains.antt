-- Chains of blocks: a CBC-MAC without its end. RFC 4493, section 2.4, and RFC 3610, section 2.2, build
-- on them.
use Rattle.std.specs.Prelude.{ℕ, zero, suc, ◌-◌, ◌*◌, ◌/◌, ◌%◌, List, ◌++◌, length, take, drop, replicate}
use Rattle.aes_modes.specs.Cipher.{xor_bytes, encrypted}

-- a block of zeros
abbrev pub zero_block : List ℕ
zero_block = replicate 16 0

-- x after the first n blocks of a text: each is added to it, and the sum encrypted
unfoldable pub chained : List ℕ → List ℕ → List ℕ → ℕ → List ℕ
chained key x m zero = x
chained key x m (suc n) = encrypted key (xor_bytes (chained key x m n) (take 16 (drop (16 * n) m)))

-- x after all whole blocks of a text
abbrev pub chained_all : List ℕ → List ℕ → List ℕ → List ℕ
chained_all key x m = chained key x m (length m / 16)

-- a text, and zeros up to a whole block
abbrev pub padded : List ℕ → List ℕ
padded m = m ++ replicate ((16 - length m % 16) % 16) 0
