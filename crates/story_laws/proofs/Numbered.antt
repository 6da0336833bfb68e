-- Lists whose items have numbers from 1.
use Rattle.std.proofs.Common.{◌≡◌, ◌≢◌, ℕ, zero, suc, ◌+◌, ◌-◌, ◌≤◌, ◌<◌, ◌==◌, Bool, List, [], ◌∷◌, ◌++◌, length, Option, Some, None}
use Rattle.std.proofs.Common.{refl, sym, ap, ◌∙◌, ◌⊎◌, inl, inr, ⊎_elim, arith}
use Rattle.std.specs.Prelude.{false, if◌then◌else◌, map, slice_get, slice_set}
use Rattle.std.proofs.lemmas.Bool.{ne_eqb}
use Rattle.std.proofs.lemmas.Option.{none-some, same_Some}
use Rattle.store_tables.proofs.SlotTables.{slice_get-push}
use Rattle.line_record.specs.Lists.{changed_at, changed_place}
use Rattle.line_record.specs.RunRecords.{numbered}

not_zero : (n : ℕ) → (suc n == 0) ≡ false
not_zero n = ne_eqb (suc n) 0 (λ e. absurd (omega (arith, e)))

module _ {A : Type 0} where
  pub number_place : (xs : List A) (n : ℕ) → numbered xs (suc n) ≡ slice_get xs n
  number_place xs n =
      ap (λ (b : Bool). if b then None else slice_get xs (suc n - 1)) (not_zero n) ∙ ap (λ (k : ℕ). slice_get xs k) (omega arith)

  place_within : (xs : List A) (n : ℕ) (x : A) → slice_get xs n ≡ Some x → n < length xs
  place_within [] n x is = absurd (none-some x is)
  place_within (y ∷ xs) zero x is = omega arith
  place_within (y ∷ xs) (suc n) x is = let inside = place_within xs n x is in omega (arith, inside)

  -- # Appended items

  pub within : (xs : List A) (n : ℕ) (x : A) → numbered xs n ≡ Some x → n ≤ length xs
  within xs zero x is = omega arith
  within xs (suc n) x is = let inside = place_within xs n x (sym (number_place xs n) ∙ is) in omega (arith, inside)

  pub positive : (xs : List A) (n : ℕ) (x : A) → numbered xs n ≡ Some x → 0 < n
  positive xs zero x is = absurd (none-some x is)
  positive xs (suc n) x is = omega arith

  split_place : (xs ys : List A) (k : ℕ) (x : A) → slice_get (xs ++ ys) k ≡ Some x
      → (slice_get xs k ≡ Some x) ⊎ ((i : ℕ) × (k ≡ length xs + i) × (slice_get ys i ≡ Some x))
  split_place [] ys k x is = inr (k, omega arith, is)
  split_place (z ∷ xs) ys zero x is = inl is
  split_place (z ∷ xs) ys (suc k) x is =
      ⊎_elim (λ old. inl old) (λ (new : (i : ℕ) × (k ≡ length xs + i) × (slice_get ys i ≡ Some x)). inr (new.0, omega (arith, new.1), new.2))
      (split_place xs ys k x is)

  -- an item of two lists is one of the first, or has a greater number
  pub split_number : (xs ys : List A) (k : ℕ) (x : A) → numbered (xs ++ ys) k ≡ Some x
      → (numbered xs k ≡ Some x) ⊎ ((i : ℕ) × (k ≡ length xs + i + 1) × (numbered ys (suc i) ≡ Some x))
  split_number xs ys zero x is = absurd (none-some x is)
  split_number xs ys (suc k) x is =
      ⊎_elim (λ old. inl (number_place xs k ∙ old))
      (λ (new : (i : ℕ) × (k ≡ length xs + i) × (slice_get ys i ≡ Some x)). inr (new.0, omega (arith, new.1), number_place ys new.0 ∙ new.2))
      (split_place xs ys k x (sym (number_place (xs ++ ys) k) ∙ is))

  pushed_place : (xs : List A) (y : A) (k : ℕ) (x : A) → slice_get (xs ++ (y ∷ [])) k ≡ Some x → (slice_get xs k ≡ Some x) ⊎ ((k ≡ length xs) × (x ≡ y))
  pushed_place [] y zero x is = inr (refl, sym (same_Some y x is))
  pushed_place [] y (suc k) x is = absurd (none-some x is)
  pushed_place (z ∷ xs) y zero x is = inl is
  pushed_place (z ∷ xs) y (suc k) x is =
      ⊎_elim (λ old. inl old) (λ (new : (k ≡ length xs) × (x ≡ y)). inr (ap suc new.0, new.1)) (pushed_place xs y k x is)

  pub pushed_number : (xs : List A) (y : A) (k : ℕ) (x : A) → numbered (xs ++ (y ∷ [])) k ≡ Some x
      → (numbered xs k ≡ Some x) ⊎ ((k ≡ length xs + 1) × (x ≡ y))
  pushed_number xs y zero x is = absurd (none-some x is)
  pushed_number xs y (suc k) x is =
      ⊎_elim (λ old. inl (number_place xs k ∙ old)) (λ (new : (k ≡ length xs) × (x ≡ y)). inr (omega (arith, new.0), new.1))
      (pushed_place xs y k x (sym (number_place (xs ++ (y ∷ [])) k) ∙ is))

  kept_place : (xs : List A) (y : A) (k : ℕ) (x : A) → slice_get xs k ≡ Some x → slice_get (xs ++ (y ∷ [])) k ≡ Some x
  kept_place [] y k x is = absurd (none-some x is)
  kept_place (z ∷ xs) y zero x is = is
  kept_place (z ∷ xs) y (suc k) x is = kept_place xs y k x is

  pub kept_number : (xs : List A) (y : A) (k : ℕ) (x : A) → numbered xs k ≡ Some x → numbered (xs ++ (y ∷ [])) k ≡ Some x
  kept_number xs y zero x is = absurd (none-some x is)
  kept_number xs y (suc k) x is = number_place (xs ++ (y ∷ [])) k ∙ kept_place xs y k x (sym (number_place xs k) ∙ is)

  pub last_number : (xs : List A) (y : A) → numbered (xs ++ (y ∷ [])) (length xs + 1) ≡ Some y
  last_number xs y =
      ap (λ (k : ℕ). numbered (xs ++ (y ∷ [])) k) (omega arith) ∙ number_place (xs ++ (y ∷ [])) (length xs) ∙ slice_get-push xs y

  -- # A changed item

  change_place : (n : ℕ) (f : A → A) (xs : List A) → changed_at (suc n) f xs ≡ changed_place (slice_get xs n) n f xs
  change_place n f xs =
      ap (λ (b : Bool). if b then xs else changed_place (slice_get xs (suc n - 1)) (suc n - 1) f xs) (not_zero n)
      ∙ ap (λ (k : ℕ). changed_place (slice_get xs k) k f xs) (omega arith)

  cons_changed : (o : Option A) (place : ℕ) (f : A → A) (x : A) (xs : List A) → changed_place o (suc place) f (x ∷ xs) ≡ x ∷ changed_place o place f xs
  cons_changed None place f x xs = refl
  cons_changed (Some y) place f x xs = refl

  set_length : (xs : List A) (k : ℕ) (y : A) → length (slice_set xs k y) ≡ length xs
  set_length [] k y = refl
  set_length (x ∷ xs) zero y = refl
  set_length (x ∷ xs) (suc k) y = ap suc (set_length xs k y)

  place_length : (f : A → A) (o : Option A) (k : ℕ) (xs : List A) → length (changed_place o k f xs) ≡ length xs
  place_length f None k xs = refl
  place_length f (Some x) k xs = set_length xs k (f x)

  pub changed_length : (f : A → A) (k : ℕ) (xs : List A) → length (changed_at k f xs) ≡ length xs
  changed_length f zero xs = refl
  changed_length f (suc k) xs = ap length (change_place k f xs) ∙ place_length f (slice_get xs k) k xs

  place_was : (f : A → A) (xs : List A) (k i : ℕ) (y : A) → slice_get (changed_place (slice_get xs k) k f xs) i ≡ Some y
      → (x : A) × (slice_get xs i ≡ Some x) × (((k ≡ i) × (y ≡ f x)) ⊎ ((k ≢ i) × (y ≡ x)))
  place_was f [] k i y is = absurd (none-some y is)
  place_was f (x ∷ xs) zero zero y is = (x, refl, inl (refl, sym (same_Some (f x) y is)))
  place_was f (x ∷ xs) zero (suc i) y is = (y, is, inr (λ e. absurd (omega (arith, e)), refl))
  place_was f (x ∷ xs) (suc k) zero y is = (
    x,
    refl,
    inr (
      λ e. absurd (omega (arith, e)),
      sym (same_Some x y (sym (ap (λ (ys : List A). slice_get ys 0) (cons_changed (slice_get xs k) k f x xs)) ∙ is)),
    ),
  )
  place_was f (x ∷ xs) (suc k) (suc i) y is =
      let rest = place_was f xs k i y (sym (ap (λ (ys : List A). slice_get ys (suc i)) (cons_changed (slice_get xs k) k f x xs)) ∙ is) in (
        rest.0,
        rest.1,
        ⊎_elim (λ (same : (k ≡ i) × (y ≡ f rest.0)). inl (ap suc same.0, same.1))
            (λ (other : (k ≢ i) × (y ≡ rest.0)). inr (λ e. other.0 (omega (arith, e)), other.1)) rest.2,
      )

  -- what an item was that stands in a list in which the item of a number was changed
  pub number_was : (f : A → A) (xs : List A) (k n : ℕ) (y : A) → numbered (changed_at k f xs) n ≡ Some y
      → (x : A) × (numbered xs n ≡ Some x) × (((k ≡ n) × (y ≡ f x)) ⊎ ((k ≢ n) × (y ≡ x)))
  number_was f xs k zero y is = absurd (none-some y is)
  number_was f xs zero (suc n) y is = (y, is, inr (λ e. absurd (omega (arith, e)), refl))
  number_was f xs (suc k) (suc n) y is =
      let was =
      place_was f xs k n y (sym (ap (λ (ys : List A). numbered ys (suc n)) (change_place k f xs)
      ∙ number_place (changed_place (slice_get xs k) k f xs) n) ∙ is) in (
        was.0,
        number_place xs n ∙ was.1,
        ⊎_elim (λ (same : (k ≡ n) × (y ≡ f was.0)). inl (ap suc same.0, same.1))
            (λ (other : (k ≢ n) × (y ≡ was.0)). inr (λ e. other.0 (omega (arith, e)), other.1)) was.2,
      )

  -- # Items that go on

  left_place : (xs ys : List A) (k : ℕ) (x : A) → slice_get xs k ≡ Some x → slice_get (xs ++ ys) k ≡ Some x
  left_place [] ys k x is = absurd (none-some x is)
  left_place (z ∷ xs) ys zero x is = is
  left_place (z ∷ xs) ys (suc k) x is = left_place xs ys k x is

  -- an item of a list has its number in a longer one
  pub left_number : (xs ys : List A) (k : ℕ) (x : A) → numbered xs k ≡ Some x → numbered (xs ++ ys) k ≡ Some x
  left_number xs ys zero x is = absurd (none-some x is)
  left_number xs ys (suc k) x is = number_place (xs ++ ys) k ∙ left_place xs ys k x (sym (number_place xs k) ∙ is)

  place_now : (f : A → A) (xs : List A) (k i : ℕ) (x : A) → slice_get xs i ≡ Some x
      → (y : A) × (slice_get (changed_place (slice_get xs k) k f xs) i ≡ Some y) × ((y ≡ f x) ⊎ (y ≡ x))
  place_now f [] k i x is = absurd (none-some x is)
  place_now f (z ∷ xs) zero zero x is = (f z, refl, inl (ap f (same_Some z x is)))
  place_now f (z ∷ xs) zero (suc i) x is = (x, is, inr refl)
  place_now f (z ∷ xs) (suc k) zero x is = (
    x,
    ap (λ (ys : List A). slice_get ys 0) (cons_changed (slice_get xs k) k f z xs) ∙ is,
    inr refl,
  )
  place_now f (z ∷ xs) (suc k) (suc i) x is =
      let rest = place_now f xs k i x is in (
        rest.0,
        ap (λ (ys : List A). slice_get ys (suc i)) (cons_changed (slice_get xs k) k f z xs) ∙ rest.1,
        rest.2,
      )

  -- what an item is now of a list in which the item of a number was changed
  pub number_now : (f : A → A) (xs : List A) (k n : ℕ) (x : A) → numbered xs n ≡ Some x
      → (y : A) × (numbered (changed_at k f xs) n ≡ Some y) × ((y ≡ f x) ⊎ (y ≡ x))
  number_now f xs k zero x is = absurd (none-some x is)
  number_now f xs zero (suc n) x is = (x, is, inr refl)
  number_now f xs (suc k) (suc n) x is =
      let now = place_now f xs k n x (sym (number_place xs n) ∙ is) in (
        now.0,
        ap (λ (ys : List A). numbered ys (suc n)) (change_place k f xs) ∙ number_place (changed_place (slice_get xs k) k f xs) n ∙ now.1,
        now.2,
      )

  place_kept : (f : A → A) → ((x : A) → f x ≡ x) → (xs : List A) (k : ℕ) → changed_place (slice_get xs k) k f xs ≡ xs
  place_kept f same [] k = refl
  place_kept f same (x ∷ xs) zero = ap (λ (y : A). y ∷ xs) (same x)
  place_kept f same (x ∷ xs) (suc k) = cons_changed (slice_get xs k) k f x xs ∙ ap (λ (ys : List A). x ∷ ys) (place_kept f same xs k)

  -- a change that changes nothing
  pub kept_at : (f : A → A) → ((x : A) → f x ≡ x) → (xs : List A) (k : ℕ) → changed_at k f xs ≡ xs
  kept_at f same xs zero = refl
  kept_at f same xs (suc k) = change_place k f xs ∙ place_kept f same xs k

-- # Items seen by a part of them

module _ {A B : Type 0} (h : A → B) where
  map_place : (f : A → A) (g : B → B) → ((x : A) → h (f x) ≡ g (h x)) → (xs : List A) (k : ℕ)
      → map h (changed_place (slice_get xs k) k f xs) ≡ changed_place (slice_get (map h xs) k) k g (map h xs)
  map_place f g is [] k = refl
  map_place f g is (x ∷ xs) zero = ap (λ (y : B). y ∷ map h xs) (is x)
  map_place f g is (x ∷ xs) (suc k) =
      ap (map h) (cons_changed (slice_get xs k) k f x xs) ∙ ap (λ (ys : List B). h x ∷ ys) (map_place f g is xs k)
      ∙ sym (cons_changed (slice_get (map h xs) k) k g (h x) (map h xs))

  pub map_changed : (f : A → A) (g : B → B) → ((x : A) → h (f x) ≡ g (h x)) → (k : ℕ) (xs : List A)
      → map h (changed_at k f xs) ≡ changed_at k g (map h xs)
  map_changed f g is zero xs = refl
  map_changed f g is (suc k) xs = ap (map h) (change_place k f xs) ∙ map_place f g is xs k ∙ sym (change_place k g (map h xs))

  pub map_kept : (f : A → A) → ((x : A) → h (f x) ≡ h x) → (k : ℕ) (xs : List A) → map h (changed_at k f xs) ≡ map h xs
  map_kept f is k xs = map_changed f (λ y. y) is k xs ∙ kept_at (λ y. y) (λ y. refl) (map h xs) k

  pub map_pushed : (xs : List A) (y : A) → map h (xs ++ (y ∷ [])) ≡ map h xs ++ (h y ∷ [])
  map_pushed [] y = refl
  map_pushed (x ∷ xs) y = ap (λ (ys : List B). h x ∷ ys) (map_pushed xs y)
