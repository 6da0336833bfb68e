-- Lists whose items have numbers from 1.
use Rattle.std.specs.Prelude.{ℕ, ◌-◌, ◌==◌, List, slice_get, slice_set, Option, None, Some, if◌then◌else◌}

-- a list with another item at a place, where there is one
abbrev pub changed_place : {A : Type 0} → Option A → ℕ → (A → A) → List A → List A
changed_place None place f xs = xs
changed_place (Some x) place f xs = slice_set xs place (f x)

-- a list with another item under a number, where there is one
abbrev pub changed_at : {A : Type 0} → ℕ → (A → A) → List A → List A
changed_at number f xs = if number == 0 then xs else changed_place (slice_get xs (number - 1)) (number - 1) f xs
