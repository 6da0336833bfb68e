-- What is looked up in a table where an entry came.
use Rattle.std.proofs.Common.{◌≡◌, ◌≢◌, ℕ, suc, ◌+◌, ◌<◌, ◌≤◌, Bool, true, false, cond, List, [], ◌∷◌, ◌++◌, Option, Some, None, length, set, get_or, refl, sym}
use Rattle.std.proofs.Common.{ap, ◌∙◌, arith, length-append}
use Rattle.std.specs.Prelude.{◌==◌, nat_lt, slice_get, is_some, not}
use Rattle.std.specs.List.{find, position_or_len}
use Rattle.std.specs.Option.{option_and_then, option_or}
use Rattle.std.proofs.lemmas.Bool.Decides.{nat_tests}
use Rattle.std.proofs.lemmas.List.Folds.{find_at, find-set, find_past, find-append}
use Rattle.std.proofs.lemmas.Option.{slice_get_past}
use Rattle.store_tables.specs.SlotTables.{Layout, place_of, entry_of}
use Rattle.store_tables.proofs.SlotTables.{found, apart}

-- the first that passes stands after all that fail
first_here : {A : Type 0} (p : A → Bool) (xs : List A) (y : A) → ((k : ℕ) (d : A) → k < length xs → p (get_or xs k d) ≡ false) → p y ≡ true
    → position_or_len p (xs ++ y ∷ []) ≡ length xs
first_here p [] y fails passes = ap (λ (b : Bool). cond (not b) 1 0) passes
first_here p (x ∷ xs) y fails passes =
    ap (λ (b : Bool). cond (not b) (1 + position_or_len p (xs ++ y ∷ [])) 0) (fails 0 x (omega arith))
    ∙ ap (λ n. 1 + n) (first_here p xs y (λ k d lt. fails (suc k) d (omega arith)) passes) ∙ omega arith

module _ {A : Type 0} (layout : Layout A) where
  -- whether an entry has a key
  abbrev pub has_key : ℕ → A → Bool
  has_key key e = layout.key e == key

  has_key-true : (key : ℕ) (e : A) → layout.key e ≡ key → has_key key e ≡ true
  has_key-true key e h = grind (arith, nat_tests)

  has_key-false : (key : ℕ) (e : A) → layout.key e ≢ key → has_key key e ≡ false
  has_key-false key e h = grind (arith, nat_tests)

  -- the entry of a key is the first one that has it
  pub entry_of-find : (table : List A) (key : ℕ) → entry_of layout table key ≡ find (has_key key) table
  entry_of-find table key = by_within (nat_lt (position_or_len (has_key key) table) (length table)) refl
    where
      by_within : (within : Bool) → nat_lt (position_or_len (has_key key) table) (length table) ≡ within → entry_of layout table key ≡ find (has_key key) table
      by_within true is =
          ap (λ (b : Bool). option_and_then (slice_get table) (cond b (Some (position_or_len (has_key key) table)) None)) is ∙ sym (find_at (has_key key) table)
      by_within false is =
          let past : length table ≤ position_or_len (has_key key) table = grind (arith, nat_tests) in
          ap (λ (b : Bool). option_and_then (slice_get table) (cond b (Some (position_or_len (has_key key) table)) None)) is
          ∙ sym (find_at (has_key key) table ∙ slice_get_past table (position_or_len (has_key key) table) past)

  find_none : (table : List A) (key : ℕ) → place_of layout table key ≡ None → find (has_key key) table ≡ None
  find_none table key e = sym (entry_of-find table key) ∙ ap (option_and_then (slice_get table)) e

  first_place : (table : List A) (key place : ℕ) → place_of layout table key ≡ Some place → place ≡ position_or_len (has_key key) table
  first_place table key place e = by_within (nat_lt (position_or_len (has_key key) table) (length table)) (position_or_len (has_key key) table) e
    where
      by_within : (within : Bool) (k : ℕ) → cond within (Some k) None ≡ Some place → place ≡ k
      by_within true k h = cc
      by_within false k h = absurd (cc (h))

  -- an entry in the place of the one of its key
  pub entry_set : (table : List A) (place : ℕ) (e : A) → place_of layout table (layout.key e) ≡ Some place
      → entry_of layout (set table place e) (layout.key e) ≡ Some e
  entry_set table place e at =
      entry_of-find (set table place e) (layout.key e)
      ∙ find-set (has_key (layout.key e)) table place e (first_place table (layout.key e) place at) (found layout table (layout.key e) place e at).0
      (has_key-true (layout.key e) e refl)

  pub entry_set_other : (table : List A) (place key : ℕ) (e : A) → place_of layout table (layout.key e) ≡ Some place → key ≢ layout.key e
      → entry_of layout (set table place e) key ≡ entry_of layout table key
  entry_set_other table place key e at ne =
      let there = found layout table (layout.key e) place e at in
      entry_of-find (set table place e) key
      ∙ find_past (has_key key) table place e e (has_key-false key (get_or table place e) (λ same. ne (sym same ∙ there.1)))
      (has_key-false key e (λ same. ne (sym same)))
      ∙ sym (entry_of-find table key)

  or_none : (o : Option A) → option_or o None ≡ o
  or_none None = refl
  or_none (Some x) = refl

  -- an entry of a new key after the others
  pub entry_push : (table : List A) (e : A) → place_of layout table (layout.key e) ≡ None → entry_of layout (table ++ e ∷ []) (layout.key e) ≡ Some e
  entry_push table e at =
      entry_of-find (table ++ e ∷ []) (layout.key e)
      ∙ find-append (has_key (layout.key e)) table (e ∷ [])
      ∙ ap (λ o. option_or o (find (has_key (layout.key e)) (e ∷ []))) (find_none table (layout.key e) at)
      ∙ ap (λ (b : Bool). cond b (Some e) None) (has_key-true (layout.key e) e refl)

  pub entry_push_other : (table : List A) (key : ℕ) (e : A) → key ≢ layout.key e → entry_of layout (table ++ e ∷ []) key ≡ entry_of layout table key
  entry_push_other table key e ne =
      entry_of-find (table ++ e ∷ []) key
      ∙ find-append (has_key key) table (e ∷ [])
      ∙ ap (λ (b : Bool). option_or (find (has_key key) table) (cond b (Some e) None)) (has_key-false key e (λ same. ne (sym same)))
      ∙ or_none (find (has_key key) table)
      ∙ sym (entry_of-find table key)

  -- it stands at the next place
  pub place_push : (table : List A) (e : A) → place_of layout table (layout.key e) ≡ None
      → place_of layout (table ++ e ∷ []) (layout.key e) ≡ Some (length table)
  place_push table e at =
      let none = apart layout table (layout.key e) (ap is_some at) in
      let first = first_here (has_key (layout.key e)) table e (λ k d lt. has_key-false (layout.key e) (get_or table k d) (none k d lt))
      (has_key-true (layout.key e) e refl) in
      let within : nat_lt (length table) (length (table ++ e ∷ [])) ≡ true = let long = length-append table (e ∷ []) in grind (arith, nat_tests) in
      ap (λ (k : ℕ). cond (nat_lt k (length (table ++ e ∷ []))) (Some k) None) first ∙ ap (λ (b : Bool). cond b (Some (length table)) None) within
