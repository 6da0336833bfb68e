-- Lists that rise.
use Rattle.std.specs.Prelude.{ℕ, Bool, true, false, nat_lt, List, [], ◌∷◌, Option, None, Some, if◌then◌else◌}

abbrev pub is_above : Option ℕ → ℕ → Bool
is_above None n = true
is_above (Some last) n = nat_lt last n

-- whether each item has a greater number than the one before it, the first one than this
abbrev pub is_rising_after : {A : Type 0} → (A → ℕ) → Option ℕ → List A → Bool
is_rising_after number last [] = true
is_rising_after number last (x ∷ xs) = if is_above last (number x) then is_rising_after number (Some (number x)) xs else false
