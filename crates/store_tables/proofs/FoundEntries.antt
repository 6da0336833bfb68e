-- Each entry of a table is found by its key, in whatever order the keys are looked up.
use Rattle.std.proofs.Common.{◌≡◌, ◌⊎◌, inl, inr, ℕ, ◌<◌, ◌≤◌, Bool, true, false, List, [], ◌∷◌, Option, Some, None, length, map, get_or, refl, sym, ap, ◌∙◌}
use Rattle.std.proofs.Common.{arith}
use Rattle.std.specs.Prelude.{if◌then◌else◌, nat_lt, slice_get, is_some, All, IsSorted, IsPermutation}
use Rattle.std.specs.Option.{option_and_then}
use Rattle.std.specs.Ordering.{nat_cmp}
use Rattle.std.proofs.lemmas.Bool.{cases_lt}
use Rattle.std.proofs.lemmas.List.Elements.{All-cons, All-head, All-tail}
use Rattle.std.proofs.lemmas.Option.{slice_get-get_or}
use Rattle.store_tables.specs.SlotTables.{Layout, IsTable, place_of, entry_of}
use Rattle.plc_base.specs.Orders.{placed_by, ordered_by}
use Rattle.store_tables.proofs.SlotTables.{found, apart}
use Rattle.plc_base.proofs.SortedNumbers.{sorted_numbers}

module _ {A : Type 0} (P : A → Type 0) (number : A → ℕ) where
  All-placed : (x : A) (ys : List A) → P x → All P ys → All P (placed_by number x ys)
  All-placed x [] h all = All-cons P x [] h all
  All-placed x (y ∷ ys) h all = by_test (nat_lt (number x) (number y)) (All-placed x ys h (All-tail P y ys all))
    where
      by_test : (b : Bool) → All P (placed_by number x ys) → All P (if b then x ∷ (y ∷ ys) else y ∷ placed_by number x ys)
      by_test true more = All-cons P x (y ∷ ys) h all
      by_test false more = All-cons P y (placed_by number x ys) (All-head P y ys all) more

  All-ordered : (xs : List A) → All P xs → All P (ordered_by number xs)
  All-ordered [] all = all
  All-ordered (x ∷ xs) all = All-placed x (ordered_by number xs) (All-head P x xs all) (All-ordered xs (All-tail P x xs all))

module _ {A : Type 0} (layout : Layout A) where
  -- an entry is the one of its key
  pub entry_here : (table : List A) → IsTable layout table → All (λ e. entry_of layout table (layout.key e) ≡ Some e) table
  entry_here table h k d lt = by_place (place_of layout table (layout.key e)) refl
    where
      e : A
      e = get_or table k d

      same : (place : ℕ) → place < length table → layout.key (get_or table place d) ≡ layout.key (get_or table k d) → place ≡ k
      same place within keys = by_order (cases_lt place k) (cases_lt k place)
        where
          by_order : (place < k) ⊎ (k ≤ place) → (k < place) ⊎ (place ≤ k) → place ≡ k
          by_order (inl low) other = absurd (h.distinct place k d low lt keys)
          by_order (inr le) (inl high) = absurd (h.distinct k place d high within (sym keys))
          by_order (inr le) (inr ge) = omega arith

      by_place : (o : Option ℕ) → place_of layout table (layout.key (get_or table k d)) ≡ o
          → entry_of layout table (layout.key (get_or table k d)) ≡ Some (get_or table k d)
      by_place None is = absurd (apart layout table (layout.key (get_or table k d)) (ap is_some is) k d lt refl)
      by_place (Some place) is =
          let there = found layout table (layout.key (get_or table k d)) place d is in
          ap (option_and_then (slice_get table)) is ∙ slice_get-get_or table place d there.0
          ∙ ap (λ (q : ℕ). Some (get_or table q d)) (same place there.0 there.1)

  find_each : (table xs : List A) → All (λ e. entry_of layout table (layout.key e) ≡ Some e) xs → map (entry_of layout table) (map layout.key xs) ≡ map Some xs
  find_each table [] all = refl
  find_each table (x ∷ xs) all =
      let here = All-head (λ e. entry_of layout table (layout.key e) ≡ Some e) x xs all in
      let more = find_each table xs (All-tail (λ e. entry_of layout table (layout.key e) ≡ Some e) x xs all) in
      ap (λ o. o ∷ map (entry_of layout table) (map layout.key xs)) here ∙ ap (λ os. Some x ∷ os) more

  -- so sorted keys find the entries in their order
  pub sorted_find : (table : List A) (sorted : List ℕ) → IsTable layout table → IsPermutation (map layout.key table) sorted → IsSorted nat_cmp sorted
      → map (entry_of layout table) sorted ≡ map Some (ordered_by layout.key table)
  sorted_find table sorted h same up =
      ap (map (entry_of layout table)) (sorted_numbers layout.key table sorted same up)
      ∙ find_each table (ordered_by layout.key table) (All-ordered (λ e. entry_of layout table (layout.key e) ≡ Some e) layout.key table (entry_here table h))
