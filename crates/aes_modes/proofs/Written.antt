-- Blocks written out, and sums of bytes.
use Rattle.std.proofs.Common.{◌≡◌, ℕ, zero, suc, ◌+◌, ◌≤◌, List, [], ◌∷◌, length, take, drop, get_or, refl, ap, ◌∙◌, arith}
use Rattle.std.proofs.lemmas.List.{drop_more, take_all}
use Rattle.aes_modes.specs.Cipher.{xor_bytes}

-- n elements of a list from place at + k on, written out
abbrev pub gets : ℕ → ℕ → ℕ → List ℕ → List ℕ
gets zero k at xs = []
gets (suc n) k at xs = get_or xs (at + k) 0 ∷ gets n (suc k) at xs

gets_are : (n k at : ℕ) (xs : List ℕ) → at + k + n ≤ length xs → gets n k at xs ≡ take n (drop (at + k) xs)
gets_are zero k at xs h = refl
gets_are (suc n) k at xs h =
    let here : drop (at + k) xs ≡ get_or xs (at + k) 0 ∷ drop (at + k + 1) xs = drop_more xs (at + k) 0 (omega arith) in
    let next : at + suc k ≡ at + k + 1 = omega arith in
    let rest : gets n (suc k) at xs ≡ take n (drop (at + suc k) xs) = gets_are n (suc k) at xs (omega arith) in
    rw here (ap (λ (ys : List ℕ). get_or xs (at + k) 0 ∷ ys) (rw next at rest))

-- a list of n elements is its elements
pub spelled : (n : ℕ) (xs : List ℕ) → length xs ≡ n → gets n 0 0 xs ≡ xs
spelled n xs len = gets_are n 0 0 xs (omega arith) ∙ take_all n xs (omega arith)

pub xor_blocks_is : (a b : List ℕ) → length a ≡ 16 → length b ≡ 16 → xor_bytes (gets 16 0 0 a) (gets 16 0 0 b) ≡ xor_bytes a b
xor_blocks_is a b la lb = λ i. xor_bytes (spelled 16 a la i) (spelled 16 b lb i)
