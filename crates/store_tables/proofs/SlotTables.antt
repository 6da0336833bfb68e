-- A table stays stored where one entry is written, or where only what is not stored changes.
use Rattle.std.proofs.Common.{◌≡◌, ◌≢◌, ◌⊎◌, inl, inr, ℕ, true, zero, suc, ◌+◌, ◌<◌, ◌≤◌, false, List, [], ◌∷◌, ◌++◌, Option, Some, None, length, map, get_or}
use Rattle.std.proofs.Common.{set, refl, sym, ap, subst, ◌∙◌, arith, length-append}
use Rattle.std.proofs.lemmas.Bool.{cases_eq, cases_lt}
use Rattle.std.proofs.lemmas.Bool.Decides.{nat_tests}
use Rattle.std.proofs.lemmas.Grind.{common_steps}
use Rattle.std.proofs.lemmas.List.{length-set, length-map, get_or-set_same, get_or-set_other, get_or_append_left}
use Rattle.std.proofs.lemmas.List.Quantifiers.{all_pairs_push, position-Some}
use Rattle.std.proofs.lemmas.List.Sums.{fails_before_first, position_or_len_is}
use Rattle.std.proofs.lemmas.Option.{slice_get-get_or}
use Rattle.std.specs.Prelude.{slice_get, is_some, IfSome, MatchOption, nat_lt, ◌==◌}
use Rattle.std.specs.Option.{option_map}
use Rattle.std.specs.FinMap.{get, insert}
use Rattle.plc_base.specs.Keeper.{Records, SameOutside}
use Rattle.store_tables.specs.SlotTables.{Layout, slot_of, place_of, IsTable, IsFree, IsStored}
use Rattle.store_tables.proofs.StoreLemmas.{get-insert_same, get-insert_other}

-- # Lists by place

pub slice_get-set : {A : Type 0} (table : List A) (place : ℕ) (e : A) → place < length table → slice_get (set table place e) place ≡ Some e
slice_get-set [] place e h = absurd (omega arith)
slice_get-set (p ∷ table) zero e h = refl
slice_get-set (p ∷ table) (suc place) e h = slice_get-set table place e (omega arith)

pub slice_get-set_other : {A : Type 0} (table : List A) (place q : ℕ) (e : A) → q ≢ place → slice_get (set table place e) q ≡ slice_get table q
slice_get-set_other [] place q e h = refl
slice_get-set_other (p ∷ table) zero zero e h = absurd (h refl)
slice_get-set_other (p ∷ table) zero (suc q) e h = refl
slice_get-set_other (p ∷ table) (suc place) zero e h = refl
slice_get-set_other (p ∷ table) (suc place) (suc q) e h = slice_get-set_other table place q e (λ k. h (ap suc k))

-- what is read at a place is what any default finds there
pub got_here : {A : Type 0} (table : List A) (place : ℕ) (got d : A) → place < length table → slice_get table place ≡ Some got → got ≡ get_or table place d
got_here table place got d lt e = let there = slice_get-get_or table place d lt in cc

pub slice_get-push : {A : Type 0} (table : List A) (e : A) → slice_get (table ++ e ∷ []) (length table) ≡ Some e
slice_get-push [] e = refl
slice_get-push (p ∷ table) e = slice_get-push table e

pub slice_get-push_other : {A : Type 0} (table : List A) (q : ℕ) (e : A) → q ≢ length table → slice_get (table ++ e ∷ []) q ≡ slice_get table q
slice_get-push_other [] zero e h = absurd (h refl)
slice_get-push_other [] (suc q) e h = refl
slice_get-push_other (p ∷ table) zero e h = refl
slice_get-push_other (p ∷ table) (suc q) e h = slice_get-push_other table q e (λ k. h (ap suc k))

pub slice_get-map : {A : Type 0} (f : A → A) (table : List A) (q : ℕ) → slice_get (map f table) q ≡ option_map f (slice_get table q)
slice_get-map f [] q = refl
slice_get-map f (p ∷ table) zero = refl
slice_get-map f (p ∷ table) (suc q) = slice_get-map f table q

-- # Keys

-- the entry that is found has the key
pub found : {A : Type 0} (layout : Layout A) (table : List A) (key place : ℕ) (d : A) → place_of layout table key ≡ Some place
    → (place < length table) × (layout.key (get_or table place d) ≡ key)
found layout table key place d e =
    let p = position-Some (λ entry. layout.key entry == key) table place d e in
    (p.0, grind (arith, nat_tests))

-- where no entry is found, none has the key
pub apart : {A : Type 0} (layout : Layout A) (table : List A) (key : ℕ) → is_some (place_of layout table key) ≡ false → (k : ℕ) (d : A) → k < length table
    → layout.key (get_or table k d) ≢ key
apart layout table key e k d within = grind (arith, common_steps, nat_tests, fails_before_first)

-- where no entry is found, the key is free
pub free_new : {A : Type 0} (layout : Layout A) (table : List A) (key place : ℕ) → is_some (place_of layout table key) ≡ false → IsFree layout table place key
free_new {A = A} layout table key place e q within other = go (slice_get table q) refl
  where
    go : (o : Option A) → slice_get table q ≡ o → IfSome o (λ entry. layout.key entry ≢ key)
    go None is = tt
    go (Some entry) is = λ same.
        let got = slice_get-get_or table q entry within in
        let here : get_or table q entry ≡ entry = cc in
        apart layout table key e q entry within (ap layout.key here ∙ same)

-- at the place of an entry that is found, its key is free
pub free_found : {A : Type 0} (layout : Layout A) (table : List A) (key place : ℕ) → IsTable layout table → place_of layout table key ≡ Some place
    → IsFree layout table place key
free_found {A = A} layout table key place h e q within other = go (slice_get table q) refl
  where
    differs : (entry : A) → get_or table q entry ≡ entry → layout.key entry ≢ key
    differs entry here same =
        let there = found layout table key place entry e in
        elim (cases_lt q place) [
          | inl lower ↦ h.distinct q place entry lower there.0 (ap layout.key here ∙ same ∙ sym there.1)
          | inr above ↦ h.distinct place q entry (omega arith) within (there.1 ∙ sym same ∙ sym (ap layout.key here))
        ]

    go : (o : Option A) → slice_get table q ≡ o → IfSome o (λ entry. layout.key entry ≢ key)
    go None is = tt
    go (Some entry) is =
        let got = slice_get-get_or table q entry within in
        let here : get_or table q entry ≡ entry = cc in
        differs entry here

-- an entry that rests like the one at a place has its key, which is free there
pub free_same_rest : {A : Type 0} (layout : Layout A) (table : List A) (place : ℕ) (e : A) → ((a : A) → layout.key (layout.rest a) ≡ layout.key a)
    → IsTable layout table → place < length table → IfSome (slice_get table place) (λ before. layout.rest e ≡ layout.rest before)
    → IsFree layout table place (layout.key e)
free_same_rest {A = A} layout table place e keys h within same q inside other = go (slice_get table q) refl
  where
    before : layout.key (get_or table place e) ≡ layout.key e
    before =
        let rests = subst (λ o. IfSome o (λ b. layout.rest e ≡ layout.rest b)) (slice_get-get_or table place e within) same in
        sym (keys (get_or table place e)) ∙ ap layout.key (sym rests) ∙ keys e

    there : (d : A) → get_or table place d ≡ get_or table place e
    there d = let a = slice_get-get_or table place d within in let b = slice_get-get_or table place e within in cc

    differs : (entry : A) → get_or table q entry ≡ entry → layout.key entry ≢ layout.key e
    differs entry here same =
        elim (cases_lt q place) [
          | inl lower ↦ h.distinct q place entry lower within (ap layout.key here ∙ same ∙ sym before ∙ sym (ap layout.key (there entry)))
          | inr above ↦ h.distinct place q entry (omega arith) inside (ap layout.key (there entry) ∙ before ∙ sym same ∙ sym (ap layout.key here))
        ]

    go : (o : Option A) → slice_get table q ≡ o → IfSome o (λ entry. layout.key entry ≢ layout.key e)
    go None is = tt
    go (Some entry) is =
        let got = slice_get-get_or table q entry inside in
        let here : get_or table q entry ≡ entry = cc in
        differs entry here

pub IsTable-set : {A : Type 0} (layout : Layout A) (table : List A) (place : ℕ) (e : A) → IsTable layout table → place < length table
    → IsFree layout table place (layout.key e) → IsTable layout (set table place e)
IsTable-set {A = A} layout table place e h within free = record {
  distinct = λ i j d lt inside. distinct i j d lt (omega (arith, length-set table place e));
  short = omega (arith, h.short, length-set table place e);
}
  where
    other : (k : ℕ) (d : A) → k < length table → k ≢ place → layout.key (get_or table k d) ≢ layout.key e
    other k d inside ne = subst (λ o. IfSome o (λ entry. layout.key entry ≢ layout.key e)) (slice_get-get_or table k d inside) (free k inside ne)

    distinct : (i j : ℕ) (d : A) → i < j → j < length table → layout.key (get_or (set table place e) i d) ≢ layout.key (get_or (set table place e) j d)
    distinct i j d lt inside =
        elim (cases_eq i place) [
          | inl here ↦
              let ne : j ≢ place = omega arith in
              rw (here, get_or-set_same table place e d within, get_or-set_other table place j e d ne) (λ same. other j d inside ne (sym same))
          | inr away ↦
              elim (cases_eq j place) [
                | inl here ↦ rw (here, get_or-set_same table place e d within, get_or-set_other table place i e d away) (other i d (omega arith) away)
                | inr ne ↦ rw (get_or-set_other table place i e d away, get_or-set_other table place j e d ne) (h.distinct i j d lt inside)
              ]
        ]

pub IsTable-push : {A : Type 0} (layout : Layout A) (table : List A) (e : A) → IsTable layout table → length table < layout.slots
    → IsFree layout table (length table) (layout.key e) → IsTable layout (table ++ e ∷ [])
IsTable-push {A = A} layout table e h room free = record {
  distinct = all_pairs_push (λ a b. layout.key a ≢ layout.key b) table e h.distinct other;
  short = omega (arith, length-append table (e ∷ []));
}
  where
    other : (k : ℕ) (d : A) → k < length table → layout.key (get_or table k d) ≢ layout.key e
    other k d inside = subst (λ o. IfSome o (λ entry. layout.key entry ≢ layout.key e)) (slice_get-get_or table k d inside) (free k inside (omega arith))

-- # What is stored

-- one place is written, in the table and in the records
stored_at : {A : Type 0} (layout : Layout A) (table next : List A) (old new : Records) (place : ℕ) (e : A)
    → IsStored layout table old → length next ≤ layout.slots → slice_get next place ≡ Some e
    → ((q : ℕ) → q ≢ place → slice_get next q ≡ slice_get table q) → new ≡ insert old (slot_of layout place) (layout.octets place e)
    → layout.read place (layout.octets place e) ≡ Some (layout.rest e) → IsStored layout next new
stored_at layout table next old new place e stored short there others written reads = record {
  short = short;
  each = λ q within.
      elim (cases_eq q place) [
        | inl here ↦
            let found : get new (slot_of layout q) ≡ Some (layout.octets place e) =
            rw written (get-insert_same old (slot_of layout place) (slot_of layout q) (layout.octets place e) (ap (slot_of layout) here)) in
            ap (option_map (layout.read q)) found ∙ ap (λ k. Some (layout.read k (layout.octets place e))) here ∙ ap Some reads
            ∙ sym (ap (λ k. option_map (λ p. Some (layout.rest p)) (slice_get next k)) here ∙ ap (option_map (λ p. Some (layout.rest p))) there)
        | inr other ↦
            let found : get new (slot_of layout q) ≡ get old (slot_of layout q) =
            rw written (get-insert_other old (slot_of layout place) (slot_of layout q) (layout.octets place e) (omega arith)) in
            ap (option_map (layout.read q)) found ∙ stored.each q within ∙ sym (ap (option_map (λ p. Some (layout.rest p))) (others q other))
      ];
}

pub stored_set : {A : Type 0} (layout : Layout A) (table : List A) (old new : Records) (place : ℕ) (e : A)
    → IsStored layout table old → place < length table → new ≡ insert old (slot_of layout place) (layout.octets place e)
    → layout.read place (layout.octets place e) ≡ Some (layout.rest e) → IsStored layout (set table place e) new
stored_set layout table old new place e stored within written reads =
    stored_at layout table (set table place e) old new place e stored (omega (arith, stored.short, length-set table place e))
    (slice_get-set table place e within) (λ q ne. slice_get-set_other table place q e ne) written reads

pub stored_push : {A : Type 0} (layout : Layout A) (table : List A) (old new : Records) (e : A)
    → IsStored layout table old → length table < layout.slots → new ≡ insert old (slot_of layout (length table)) (layout.octets (length table) e)
    → layout.read (length table) (layout.octets (length table) e) ≡ Some (layout.rest e) → IsStored layout (table ++ e ∷ []) new
stored_push layout table old new e stored room written reads =
    stored_at layout table (table ++ e ∷ []) old new (length table) e stored (omega (arith, length-append table (e ∷ []))) (slice_get-push table e)
    (λ q ne. slice_get-push_other table q e ne) written reads

-- whatever becomes of the put of one place, what is stored is the table before or after
pub set_either : {A : Type 0} (layout : Layout A) (table : List A) (old new : Records) (place : ℕ) (e : A)
    → IsStored layout table old → place < length table → (new ≡ old) ⊎ (new ≡ insert old (slot_of layout place) (layout.octets place e))
    → layout.read place (layout.octets place e) ≡ Some (layout.rest e) → IsStored layout table new ⊎ IsStored layout (set table place e) new
set_either layout table old new place e stored within (inl same) reads = inl (subst (λ (r : Records). IsStored layout table r) (sym same) stored)
set_either layout table old new place e stored within (inr written) reads = inr (stored_set layout table old new place e stored within written reads)

pub push_either : {A : Type 0} (layout : Layout A) (table : List A) (old new : Records) (e : A)
    → IsStored layout table old → length table < layout.slots
    → (new ≡ old) ⊎ (new ≡ insert old (slot_of layout (length table)) (layout.octets (length table) e))
    → layout.read (length table) (layout.octets (length table) e) ≡ Some (layout.rest e) → IsStored layout table new ⊎ IsStored layout (table ++ e ∷ []) new
push_either layout table old new e stored room (inl same) reads = inl (subst (λ (r : Records). IsStored layout table r) (sym same) stored)
push_either layout table old new e stored room (inr written) reads = inr (stored_push layout table old new e stored room written reads)

-- what is stored of the entry at a place
abbrev shown : {A : Type 0} → Layout A → Option A → Option (Option A)
shown layout o = option_map (λ p. Some (layout.rest p)) o

shown_same : {A : Type 0} (layout : Layout A) (o : Option A) (e d : A) → o ≡ Some d → IfSome o (λ before. layout.rest e ≡ layout.rest before)
    → shown layout o ≡ Some (Some (layout.rest e))
shown_same layout None e d is h = cc
shown_same layout (Some b) e d is h = ap (λ p. Some (Some p)) (sym h)

-- what is not stored may change, at one place
pub stored_rest : {A : Type 0} (layout : Layout A) (table : List A) (records : Records) (place : ℕ) (e : A) → place < length table
    → IfSome (slice_get table place) (λ before. layout.rest e ≡ layout.rest before) → IsStored layout table records
    → IsStored layout (set table place e) records
stored_rest layout table records place e within same stored = record {
  short = omega (arith, stored.short, length-set table place e);
  each = λ q inside.
      elim (cases_eq q place) [
        | inl here ↦
            stored.each q inside ∙ ap (λ k. shown layout (slice_get table k)) here
            ∙ shown_same layout (slice_get table place) e (get_or table place e) (slice_get-get_or table place e within) same
            ∙ sym (ap (λ k. shown layout (slice_get (set table place e) k)) here ∙ ap (shown layout) (slice_get-set table place e within))
        | inr other ↦ stored.each q inside ∙ sym (ap (shown layout) (slice_get-set_other table place q e other))
      ];
}

-- or at all places
pub stored_map : {A : Type 0} (layout : Layout A) (f : A → A) (table : List A) (records : Records)
    → ((e : A) → layout.rest (f e) ≡ layout.rest e) → IsStored layout table records → IsStored layout (map f table) records
stored_map {A = A} layout f table records same stored = record {
  short = omega (arith, stored.short, length-map table f);
  each = λ q within. stored.each q within ∙ sym (ap (option_map (λ p. Some (layout.rest p))) (slice_get-map f table q) ∙ shown (slice_get table q));
}
  where
    shown : (o : Option A) → option_map (λ p. Some (layout.rest p)) (option_map f o) ≡ option_map (λ p. Some (layout.rest p)) o
    shown None = refl
    shown (Some e) = ap (λ p. Some (Some p)) (same e)

-- puts to other slots leave it
pub stored_elsewhere : {A : Type 0} (layout : Layout A) (table : List A) (old new : Records) (first last : ℕ)
    → IsStored layout table old → SameOutside first last old new → (last < layout.first) ⊎ (layout.first + layout.slots ≤ first) → IsStored layout table new
stored_elsewhere layout table old new first last stored same apart = record {
  short = stored.short;
  each = λ q h. ap (option_map (layout.read q)) (same (slot_of layout q) (outside q h apart)) ∙ stored.each q h;
}
  where
    outside : (q : ℕ) → q < layout.slots → (last < layout.first) ⊎ (layout.first + layout.slots ≤ first)
        → (slot_of layout q < first) ⊎ (last < slot_of layout q)
    outside q h (inl below) = inr (omega arith)
    outside q h (inr above) = inl (omega arith)

-- where a key is looked up, it is free at the place that is found, and after the table where none is found
pub place_free : {A : Type 0} (layout : Layout A) (table : List A) (key : ℕ) (o : Option ℕ) → IsTable layout table → o ≡ place_of layout table key
    → MatchOption o (IsFree layout table (length table) key) (λ place. IsFree layout table place key)
place_free layout table key None h e = free_new layout table key (length table) (ap is_some (sym e))
place_free layout table key (Some place) h e = free_found layout table key place h (sym e)

-- an entry that is found stays where it is, if all entries keep their keys
pub same_place : {A : Type 0} (layout : Layout A) (table next : List A) (d : A) (key place : ℕ) → length table ≤ length next
    → ((k : ℕ) → k < length table → layout.key (get_or next k d) ≡ layout.key (get_or table k d)) → place_of layout table key ≡ Some place
    → place_of layout next key ≡ Some place
same_place {A = A} layout table next d key place long same e =
    let p = position-Some (λ entry. layout.key entry == key) table place d e in
    let first = position_or_len_is (λ entry. layout.key entry == key) next place d (omega (arith, p.0))
    (λ k h. ap (λ (x : ℕ). x == key) (same k (omega (arith, p.0))) ∙ p.2 k h) (λ h. ap (λ (x : ℕ). x == key) (same place p.0) ∙ p.1) in
    let inside : nat_lt place (length next) ≡ true = grind (arith, nat_tests, p.0) in
    rw (first, inside) refl

-- so it does where an entry is written in the place of its key, or after the others
pub place_of-set : {A : Type 0} (layout : Layout A) (table : List A) (e : A) (at key place : ℕ) → place_of layout table (layout.key e) ≡ Some at
    → place_of layout table key ≡ Some place → place_of layout (set table at e) key ≡ Some place
place_of-set {A = A} layout table e at key place there found_at =
    same_place layout table (set table at e) e key place (omega (arith, length-set table at e)) same found_at
  where
    same : (k : ℕ) → k < length table → layout.key (get_or (set table at e) k e) ≡ layout.key (get_or table k e)
    same k h = elim (cases_eq k at) [
      | inl here ↦ rw (here, get_or-set_same table at e e (found layout table (layout.key e) at e there).0)
          (sym (found layout table (layout.key e) at e there).1)
      | inr other ↦ rw (get_or-set_other table at k e e other) refl
    ]

pub place_of-push : {A : Type 0} (layout : Layout A) (table : List A) (e : A) (key place : ℕ) → place_of layout table key ≡ Some place
    → place_of layout (table ++ e ∷ []) key ≡ Some place
place_of-push {A = A} layout table e key place found_at =
    same_place layout table (table ++ e ∷ []) e key place (omega (arith, length-append table (e ∷ []))) same found_at
  where
    same : (k : ℕ) → k < length table → layout.key (get_or (table ++ e ∷ []) k e) ≡ layout.key (get_or table k e)
    same k h = ap layout.key (get_or_append_left table (e ∷ []) e k h)
