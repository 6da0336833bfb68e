-- A list that rises is in order.
use Rattle.std.proofs.Common.{◌≡◌, ℕ, Bool, true, false, List, [], ◌∷◌, Option, Some, refl, ap, ◌∙◌}
use Rattle.std.specs.Prelude.{nat_lt, if◌then◌else◌}
use Rattle.plc_base.specs.Orders.{placed_by, ordered_by}
use Rattle.plc_station.specs.RisingLists.{is_above, is_rising_after}

module _ {A : Type 0} (number : A → ℕ) where
  -- what the first test says of the rest
  rest_rises : (last : Option ℕ) (x : A) (xs : List A) → is_rising_after number last (x ∷ xs) ≡ true → is_rising_after number (Some (number x)) xs ≡ true
  rest_rises last x xs h = by_test (is_above last (number x)) h
    where
      by_test : (b : Bool) → (if b then is_rising_after number (Some (number x)) xs else false) ≡ true → is_rising_after number (Some (number x)) xs ≡ true
      by_test true h = h
      by_test false h = absurd (cc)

  placed_first : (x : A) (xs : List A) → is_rising_after number (Some (number x)) xs ≡ true → placed_by number x xs ≡ x ∷ xs
  placed_first x [] h = refl
  placed_first x (y ∷ ys) h = by_test (nat_lt (number x) (number y)) h
    where
      by_test : (b : Bool) → (if b then is_rising_after number (Some (number y)) ys else false) ≡ true
          → (if b then x ∷ (y ∷ ys) else y ∷ placed_by number x ys) ≡ x ∷ (y ∷ ys)
      by_test true h = refl
      by_test false h = absurd (cc)

  pub rising : (last : Option ℕ) (xs : List A) → is_rising_after number last xs ≡ true → ordered_by number xs ≡ xs
  rising last [] h = refl
  rising last (x ∷ xs) h =
      let rest = rest_rises last x xs h in
      ap (placed_by number x) (rising (Some (number x)) xs rest) ∙ placed_first x xs rest
