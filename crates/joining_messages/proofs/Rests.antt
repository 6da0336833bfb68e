-- What stands after the EUI, by how many octets there are.
use Rattle.std.proofs.Common.{◌≡◌, ℕ, List, [], ◌∷◌, length, slice_index, refl, arith}

pub one_is : (xs : List ℕ) → length xs ≡ 1 → xs ≡ slice_index xs 0 ∷ []
one_is [] h = absurd (omega arith)
one_is (a ∷ []) h = refl
one_is (a ∷ (b ∷ xs)) h = absurd (omega arith)

pub four_are : (xs : List ℕ) → length xs ≡ 4 → xs ≡ slice_index xs 0 ∷ slice_index xs 1 ∷ slice_index xs 2 ∷ slice_index xs 3 ∷ []
four_are [] h = absurd (omega arith)
four_are (a ∷ []) h = absurd (omega arith)
four_are (a ∷ (b ∷ [])) h = absurd (omega arith)
four_are (a ∷ (b ∷ (c ∷ []))) h = absurd (omega arith)
four_are (a ∷ (b ∷ (c ∷ (d ∷ [])))) h = refl
four_are (a ∷ (b ∷ (c ∷ (d ∷ (e ∷ xs))))) h = absurd (omega arith)
