-- Membership in a list.
use Rattle.std.specs.Prelude.{List, ◌∷◌}

-- it stands in the list
pub data Among {A : Type 0} (x : A) : List A → Type 0 where
  Here : (xs : List A) → Among x (x ∷ xs)
  Later : (y : A) (xs : List A) → Among x xs → Among x (y ∷ xs)
