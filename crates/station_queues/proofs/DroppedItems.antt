-- Dropping the items of a list that fail a test, one after another.
use Rattle.std.proofs.Common.{◌≡◌, ℕ, zero, suc, ◌+◌, ◌<◌, ◌≤◌, Bool, true, List, [], ◌∷◌, ◌++◌, length, get_or, take, drop, refl, sym, ap, ◌∙◌, arith}
use Rattle.std.specs.Prelude.{if◌then◌else◌}
use Rattle.std.specs.List.{filter}

-- the first i of them, and of the rest those that pass
abbrev pub kept_so_far : {X : Type 0} → (X → Bool) → List X → ℕ → List X
kept_so_far p xs i = take i xs ++ filter p (drop i xs)

stays_suc : {X : Type 0} (p : X → Bool) (xs : List X) (i : ℕ) (d : X) → i < length xs → true ≡ p (get_or xs i d) → kept_so_far p xs i ≡ kept_so_far p xs (suc i)
stays_suc {X} p [] i d lt e = absurd (omega arith)
stays_suc {X} p (x ∷ xs) zero d lt e = ap (λ (b : Bool). if b then x ∷ filter p xs else filter p xs) (sym e)
stays_suc {X} p (x ∷ xs) (suc i) d lt e = ap (λ ys. x ∷ ys) (stays_suc p xs i d (omega arith) e)

pub stays_at : {X : Type 0} (p : X → Bool) (xs : List X) (i : ℕ) (d : X) → i < length xs → true ≡ p (get_or xs i d)
    → kept_so_far p xs i ≡ kept_so_far p xs (i + 1)
stays_at {X} p xs i d lt e = stays_suc p xs i d lt e ∙ ap (kept_so_far p xs) (one-more i)
  where
    one-more : (n : ℕ) → suc n ≡ n + 1
    one-more n = omega arith

pub all_kept : {X : Type 0} (p : X → Bool) (xs : List X) (i : ℕ) → length xs ≤ i → kept_so_far p xs i ≡ xs
all_kept {X} p [] zero le = refl
all_kept {X} p [] (suc i) le = refl
all_kept {X} p (x ∷ xs) zero le = absurd (omega arith)
all_kept {X} p (x ∷ xs) (suc i) le = ap (λ ys. x ∷ ys) (all_kept p xs i (omega arith))
