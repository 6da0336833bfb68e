-- Lists whose places are lent.
use Rattle.std.proofs.Common.{◌≡◌, ℕ, ◌<◌, ◌≤◌, List, [], ◌∷◌, ◌++◌, length, take, set, get_or, refl, ap, arith, rules}
use Rattle.std.proofs.lemmas.List.{same_lists, places, get_or-set_same}
use Rattle.std.proofs.lemmas.Bool.{cases_eq}

module _ {X : Type 0} where
  -- a write below n is a write to the first n
  pub take-set_below : (n : ℕ) (xs : List X) (i : ℕ) (x : X) → i < n → n ≤ length xs
      → take n (set xs i x) ≡ set (take n xs) i x
  take-set_below n xs i x lt le =
      same_lists _ _ (search (rules, places))
      (λ k d h. grind (arith, places, get_or-set_same, cases_eq k i))

  -- a write to the last place
  pub set-last : (xs : List X) (x y : X) → set (xs ++ x ∷ []) (length xs) y ≡ xs ++ y ∷ []
  set-last [] x y = refl
  set-last (z ∷ zs) x y = ap (λ ys. z ∷ ys) (set-last zs x y)

  -- what stands at the last place
  pub get_or-last : (xs : List X) (x d : X) → get_or (xs ++ x ∷ []) (length xs) d ≡ x
  get_or-last [] x d = refl
  get_or-last (z ∷ zs) x d = get_or-last zs x d
