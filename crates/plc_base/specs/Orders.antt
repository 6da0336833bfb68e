-- A list in the order of a number.
use Rattle.std.specs.Prelude.{◌≡◌, ℕ, nat_lt, List, [], ◌∷◌, map, if◌then◌else◌, IsSorted, IsPermutation}
use Rattle.std.specs.Ordering.{nat_cmp}

-- an item before the first one of a higher number
abbrev pub placed_by : {A : Type 0} → (A → ℕ) → A → List A → List A
placed_by number x [] = x ∷ []
placed_by number x (y ∷ ys) = if nat_lt (number x) (number y) then x ∷ (y ∷ ys) else y ∷ placed_by number x ys

-- a list in the order of a number
abbrev pub ordered_by : {A : Type 0} → (A → ℕ) → List A → List A
ordered_by number [] = []
ordered_by number (x ∷ xs) = placed_by number x (ordered_by number xs)

-- There is one way to sort numbers.
abbrev pub OneSortedPermutation : Type 0
OneSortedPermutation = (xs ys : List ℕ) → IsSorted nat_cmp xs → IsSorted nat_cmp ys → IsPermutation xs ys → xs ≡ ys

-- The numbers of a list, sorted, are those of the list in their order.
abbrev pub SortedNumbersAreOrdered : Type 0 → Type 0
SortedNumbersAreOrdered A =
    (number : A → ℕ) (xs : List A) (sorted : List ℕ) → IsPermutation (map number xs) sorted → IsSorted nat_cmp sorted
    → sorted ≡ map number (ordered_by number xs)
