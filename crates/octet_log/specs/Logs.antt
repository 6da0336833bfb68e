-- Octet strings in the order in which they came.
use Rattle.std.specs.Prelude.{◌≡◌, ◌<◌, ◌≤◌, ◌-◌, ℕ, List, Some, length, slice_get}

-- the strings, how many more may be pushed, and how many octets those may have together
pub record Log : Type 0 where
  pub strings : List (List ℕ)
  pub places : ℕ
  pub room : ℕ

-- n is the number, from 1 on, of the last of these items that is this one, and 0 where none is
pub record IsLast {X : Type 0} (items : List X) (item : X) (n : ℕ) : Type 0 where
  pub within : n ≤ length items
  pub here : 0 < n → slice_get items (n - 1) ≡ Some item
  pub none : (k : ℕ) → n ≤ k → slice_get items k ≡ Some item → ⊥
