-- A number added to the last octet of a block.
use Rattle.std.proofs.Common.{◌≡◌, ℕ, zero, suc, List, [], ◌∷◌, ◌++◌, length, refl, ap, arith, bit_xor}
use Rattle.std.specs.Prelude.{slice_index, slice_set, replicate}
use Rattle.std.specs.Int.Bits.{xor_zero_r}
use Rattle.aes_modes.specs.Cipher.{xor_bytes}
use Rattle.eap_psk.specs.Keys.{numbered_block}

xor_last : (k n : ℕ) (xs : List ℕ) → length xs ≡ suc k → slice_set xs k (bit_xor (slice_index xs k) n) ≡ xor_bytes xs (replicate k 0 ++ n ∷ [])
xor_last zero n [] e = absurd (omega arith)
xor_last zero n (x ∷ []) e = refl
xor_last zero n (x ∷ (y ∷ xs)) e = absurd (omega arith)
xor_last (suc k) n [] e = absurd (omega arith)
xor_last (suc k) n (x ∷ xs) e = rw (xor_zero_r x) (ap (λ (ys : List ℕ). x ∷ ys) (xor_last k n xs (omega arith)))

pub with_number_is : (xs : List ℕ) (n : ℕ) → length xs ≡ 16 → slice_set xs 15 (bit_xor (slice_index xs 15) n) ≡ xor_bytes xs (numbered_block n)
unfolding numbered_block
with_number_is xs n h = xor_last 15 n xs h
