-- The numbers that were admitted of each address.
use Rattle.std.specs.Prelude.{◌≡◌, ◌≢◌, ℕ, ◌<◌, List, [], ◌∷◌}

-- A number that was admitted of an address.
pub record Admitted : Type 0 where
  pub address : ℕ
  pub number : ℕ

-- what was admitted of an address is below a number
abbrev pub AllEarlier : ℕ → ℕ → List Admitted → Type 0
AllEarlier address number [] = Unit {0}
AllEarlier address number (a ∷ before) = (a.address ≡ address → a.number < number) × AllEarlier address number before

-- none of these is of this address and this number
abbrev pub IsNew : Admitted → List Admitted → Type 0
IsNew a [] = Unit {0}
IsNew a (b ∷ before) = (b ≢ a) × IsNew a before

-- no number of an address was admitted twice
abbrev pub EachOnce : List Admitted → Type 0
EachOnce [] = Unit {0}
EachOnce (a ∷ before) = IsNew a before × EachOnce before
