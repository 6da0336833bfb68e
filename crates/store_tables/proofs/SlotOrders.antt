-- The places of a table in the order of their keys: where a key is found, and what becomes of them with a place more or less.
use Rattle.std.proofs.Common.{◌≡◌, ◌≢◌, ◌⊎◌, inl, inr, ℕ, ◌+◌, ◌-◌, ◌<◌, ◌≤◌, List, [], ◌∷◌, ◌++◌, Option, Some, None, length, get_or, set, refl, sym, ap}
use Rattle.std.proofs.Common.{subst, ◌∙◌, arith, length-append}
use Rattle.std.proofs.lemmas.Bool.{cases_eq, cases_lt}
use Rattle.std.proofs.lemmas.Grind.{in_insert, in_remove}
use Rattle.std.proofs.lemmas.List.{length-map, length-set, map-append, map-set, get_or-map, get_or-set_other, get_or_append_left, get_or_default}
use Rattle.std.proofs.lemmas.List.Edits.{length-insert, get_or-insert_below, get_or-insert_at, get_or-insert_above, length-remove, get_or-remove_below}
use Rattle.std.proofs.lemmas.List.Edits.{get_or-remove_above}
use Rattle.std.proofs.lemmas.List.Quantifiers.{all_pairs_remove}
use Rattle.std.proofs.lemmas.Option.{slice_get-get_or}
use Rattle.std.proofs.Math.Seq.{map-set_same}
use Rattle.std.specs.Prelude.{slice_get, slice_index, is_some, IfSome, All, Contains}
use Rattle.std.specs.List.{insert, remove}
use Rattle.std.specs.List.Sorted.{IsNonDecreasingBy}
use Rattle.plc_base.specs.Keeper.{IsSlot}
use Rattle.store_tables.specs.SlotOrders.{IsRising, IsOrder, LacksOne, IsRank}
use Rattle.store_tables.specs.SlotTables.{Layout, IsTable, IsTableOf, IsFree, keys_of, place_of}
use Rattle.store_tables.proofs.SlotTables.{found, apart, IsTable-set, IsTable-push}

-- # Keys

-- no two places have one key
abbrev pub Differ : List ℕ → Type 0
Differ keys = (p q : ℕ) → p < length keys → q < length keys → p ≢ q → slice_index keys p ≢ slice_index keys q

module _ {A : Type 0} (layout : Layout A) where
  key_here : (table : List A) (place : ℕ) (d : A) → place < length table → slice_index (keys_of layout table) place ≡ layout.key (get_or table place d)
  key_here table place d within = get_or-map layout.key table place d 0 within

  pub differ : (table : List A) → IsTable layout table → Differ (keys_of layout table)
  differ [] h p q p_in q_in ne = absurd (omega arith)
  differ (x ∷ xs) h p q p_in q_in ne = λ same.
      let len = length-map (x ∷ xs) layout.key in
      let p_is = key_here (x ∷ xs) p x (omega arith) in
      let q_is = key_here (x ∷ xs) q x (omega arith) in
      elim (cases_lt p q) [
        | inl lower ↦ h.distinct p q x lower (omega arith) (sym p_is ∙ same ∙ q_is)
        | inr above ↦ h.distinct q p x (omega arith) (omega arith) (sym q_is ∙ sym same ∙ p_is)
      ]

  -- the place of a key
  pub place_is : (table : List A) (key place : ℕ) → IsTable layout table → place < length table → slice_index (keys_of layout table) place ≡ key
      → place_of layout table key ≡ Some place
  place_is [] key place h within same = absurd (omega arith)
  place_is (x ∷ xs) key place h within same = go (place_of layout (x ∷ xs) key) refl
    where
      one : (p : ℕ) → p < length (x ∷ xs) → slice_index (keys_of layout (x ∷ xs)) p ≡ key → p ≡ place
      one p inside here =
          let len = length-map (x ∷ xs) layout.key in
          elim (cases_eq p place) [
            | inl is ↦ is
            | inr ne ↦ absurd (differ (x ∷ xs) h p place (omega arith) (omega arith) ne (here ∙ sym same))
          ]

      go : (o : Option ℕ) → place_of layout (x ∷ xs) key ≡ o → o ≡ Some place
      go None is = absurd (apart layout (x ∷ xs) key (ap is_some is) place x within (sym (key_here (x ∷ xs) place x within) ∙ same))
      go (Some p) is =
          let there = found layout (x ∷ xs) key p x is in
          ap Some (one p there.0 (key_here (x ∷ xs) p x there.0 ∙ there.1))

  -- a key that no place has
  pub place_none : (table : List A) (key : ℕ) → ((q : ℕ) → q < length table → slice_index (keys_of layout table) q ≢ key) → place_of layout table key ≡ None
  place_none [] key none = refl
  place_none (x ∷ xs) key none = go (place_of layout (x ∷ xs) key) refl
    where
      go : (o : Option ℕ) → place_of layout (x ∷ xs) key ≡ o → o ≡ None
      go None is = refl
      go (Some p) is =
          let there = found layout (x ∷ xs) key p x is in
          absurd (none p there.0 (key_here (x ∷ xs) p x there.0 ∙ there.1))

-- # The rank of a key

module _ (keys places : List ℕ) where
  pub up : IsRising keys places → IsNonDecreasingBy (slice_index keys) places
  up h i j d le lt =
      elim (cases_eq i j) [
        | inl same ↦ let one : slice_index keys (get_or places i d)
            ≡ slice_index keys (get_or places j d) = ap (λ (k : ℕ). slice_index keys (get_or places k d)) same in omega arith
        | inr ne ↦ let rise = h.rises i j d (omega arith) lt in omega arith
      ]

  -- a place stands at the rank of its key
  pub ranked : (key rank place : ℕ) → IsOrder keys places → IsRank keys places key rank → place < length keys → slice_index keys place ≡ key
      → (rank < length places) × (get_or places rank place ≡ place)
  ranked key rank place h r within same =
      let there = h.whole place within in
      let its_key : slice_index keys (get_or places there.0 place) ≡ key = ap (slice_index keys) there.2 ∙ same in
      elim (cases_lt there.0 rank) [
        | inl before ↦ let low = r.lower there.0 place (omega arith) before in absurd (omega arith)
        | inr from ↦
            elim (cases_eq there.0 rank) [
              | inl at ↦ (omega (arith, there.1), ap (λ (k : ℕ). get_or places k place) (sym at) ∙ there.2)
              | inr ne ↦
                  let high = r.higher rank place (omega arith) (omega (arith, there.1)) in
                  let rise = h.rising.rises rank there.0 place (omega arith) there.1 in
                  absurd (omega arith)
            ]
      ]

  -- a key that does not stand at its rank is none of a place
  pub unranked : (key rank : ℕ) → IsOrder keys places → IsRank keys places key rank → (rank < length places → slice_index keys (slice_index places rank) ≢ key)
      → (place : ℕ) → place < length keys → slice_index keys place ≢ key
  unranked key rank h r other place within = λ same.
      let at = ranked key rank place h r within same in
      other at.0 (ap (slice_index keys) (get_or_default places rank 0 place at.0 ∙ at.1) ∙ same)

  -- # A place more

  pub inserted : (place rank : ℕ) → LacksOne keys places place → Differ keys → place < length keys → IsRank keys places (slice_index keys place) rank
      → IsOrder keys (insert places rank place)
  inserted place rank h differs within r = record {
    rising = record { within = inside; rises = rises };
    whole = whole;
    counted = omega (arith, len, h.counted);
  }
    where
      len : length (insert places rank place) ≡ length places + 1
      len = length-insert places rank place r.within

      below : (k d : ℕ) → k < rank → get_or (insert places rank place) k d ≡ get_or places k d
      below k d lt = get_or-insert_below places rank place d k lt r.within

      here : (k d : ℕ) → k ≡ rank → get_or (insert places rank place) k d ≡ place
      here k d is = ap (λ (n : ℕ). get_or (insert places rank place) n d) is ∙ get_or-insert_at places rank place d r.within

      above : (k d : ℕ) → rank < k → get_or (insert places rank place) k d ≡ get_or places (k - 1) d
      above k d lt =
          let next : k ≡ k - 1 + 1 = omega arith in
          ap (λ (n : ℕ). get_or (insert places rank place) n d) next ∙ get_or-insert_above places rank place d (k - 1) (omega arith) r.within

      inside : All (λ q. q < length keys) (insert places rank place)
      inside k d lt =
          elim (cases_lt k rank) [
            | inl low ↦ rw (below k d low) (h.rising.within k d (omega (arith, r.within)))
            | inr high ↦
                elim (cases_eq k rank) [
                  | inl at ↦ rw (here k d at) within
                  | inr ne ↦ rw (above k d (omega arith)) (h.rising.within (k - 1) d (omega (arith, len)))
                ]
          ]

      -- from the rank on the keys are higher
      higher : (k d : ℕ) → rank ≤ k → k < length places → slice_index keys place < slice_index keys (get_or places k d)
      higher k d from lt =
          let no_lower = r.higher k d from lt in
          let ne = differs (get_or places k d) place (h.rising.within k d lt) within (h.lacking k d lt) in
          elim (cases_eq (slice_index keys (get_or places k d)) (slice_index keys place)) [
            | inl same ↦ absurd (ne same)
            | inr other ↦ omega arith
          ]

      rises : (i j d : ℕ) → i < j → j < length (insert places rank place)
          → slice_index keys (get_or (insert places rank place) i d) < slice_index keys (get_or (insert places rank place) j d)
      rises i j d lt last =
          elim (cases_lt j rank) [
            | inl low ↦ rw (below i d (omega arith), below j d low) (h.rising.rises i j d lt (omega (arith, r.within)))
            | inr from ↦
                elim (cases_eq j rank) [
                  | inl at ↦ rw (below i d (omega arith), here j d at) (r.lower i d (omega arith) (omega arith))
                  | inr ne ↦ rw (above j d (omega arith)) (up (omega arith) (cases_lt i rank) (cases_eq i rank))
                ]
          ]
        where
          up : rank < j → (i < rank) ⊎ (rank ≤ i) → (i ≡ rank) ⊎ (i ≢ rank)
              → slice_index keys (get_or (insert places rank place) i d) < slice_index keys (get_or places (j - 1) d)
          up high (inl low) other = rw (below i d low) (h.rising.rises i (j - 1) d (omega arith) (omega (arith, len)))
          up high (inr from) (inl at) = rw (here i d at) (higher (j - 1) d (omega arith) (omega (arith, len)))
          up high (inr from) (inr ne) = rw (above i d (omega arith)) (h.rising.rises (i - 1) (j - 1) d (omega arith) (omega (arith, len)))

      whole : (q : ℕ) → q < length keys → Contains (insert places rank place) q
      whole q lt =
          elim (cases_eq q place) [
            | inl is ↦ (rank, omega (arith, len, r.within), here rank q refl ∙ sym is)
            | inr ne ↦ let there = h.others q lt ne in (in_insert places rank there.0 place q r.within there.1 (sym there.2)).1
          ]

  -- # A place less

  pub removed : (place rank : ℕ) → IsOrder keys places → rank < length places → get_or places rank place ≡ place → LacksOne keys (remove places rank) place
  removed place rank h within is = record {
    rising = record { within = inside; rises = all_pairs_remove (λ p q. slice_index keys p < slice_index keys q) places rank within h.rising.rises };
    lacking = lacking;
    others = λ q lt ne.
        let there = h.whole q lt in
        (in_remove places rank there.0 q within there.1 (sym there.2) (moved q there.0 ne there.1 there.2)).1;
    counted = omega (arith, len, h.counted);
  }
    where
      len : length (remove places rank) + 1 ≡ length places
      len = length-remove places rank within

      at : (d : ℕ) → get_or places rank d ≡ place
      at d = get_or_default places rank d place within ∙ is

      moved : (q k : ℕ) → q ≢ place → k < length places → get_or places k q ≡ q → k ≢ rank
      moved q k ne lt there same = ne (sym there ∙ ap (λ (n : ℕ). get_or places n q) same ∙ at q)

      inside : All (λ q. q < length keys) (remove places rank)
      inside k d lt =
          elim (cases_lt k rank) [
            | inl low ↦ rw (get_or-remove_below places rank d k low within) (h.rising.within k d (omega arith))
            | inr from ↦ rw (get_or-remove_above places rank d k from within) (h.rising.within (k + 1) d (omega (arith, len)))
          ]

      lacking : All (λ q. q ≢ place) (remove places rank)
      lacking k d lt =
          elim (cases_lt k rank) [
            | inl low ↦ rw (get_or-remove_below places rank d k low within) (λ same.
                let rise = h.rising.rises k rank d low within in
                let one : slice_index keys (get_or places k d) ≡ slice_index keys (get_or places rank d) = ap (slice_index keys) (same ∙ sym (at d)) in
                absurd (omega arith))
            | inr from ↦ rw (get_or-remove_above places rank d k from within) (λ same.
                let rise = h.rising.rises rank (k + 1) d (omega arith) (omega (arith, len)) in
                let one : slice_index keys (get_or places (k + 1) d) ≡ slice_index keys (get_or places rank d) = ap (slice_index keys) (same ∙ sym (at d)) in
                absurd (omega arith))
          ]

  -- # Other keys

  -- these places have the keys that they had
  same_keys : (next : List ℕ) → IsRising keys places
      → ((k d : ℕ) → k < length places → (get_or places k d < length next) × (slice_index next (get_or places k d) ≡ slice_index keys (get_or places k d)))
      → IsRising next places
  same_keys next h same = record {
    within = λ k d lt. (same k d lt).0;
    rises = λ i j d lt last. rw ((same i d (omega arith)).1, (same j d last).1) (h.rises i j d lt last);
  }

  pub push_lacks : (key : ℕ) → IsOrder keys places → LacksOne (keys ++ key ∷ []) places (length keys)
  push_lacks key h =
      let len = length-append keys (key ∷ []) in
      record {
        rising = same_keys (keys ++ key ∷ []) h.rising
            (λ k d lt. let inside = h.rising.within k d lt in (omega arith, get_or_append_left keys (key ∷ []) 0 (get_or places k d) inside));
        lacking = λ k d lt same. let inside = h.rising.within k d lt in absurd (omega arith);
        others = λ q lt ne. h.whole q (omega arith);
        counted = omega (arith, h.counted);
      }

  pub set_lacks : (place key : ℕ) → LacksOne keys places place → LacksOne (set keys place key) places place
  set_lacks place key h =
      let len = length-set keys place key in
      record {
        rising = same_keys (set keys place key) h.rising
            (λ k d lt. let inside = h.rising.within k d lt in (omega arith, get_or-set_other keys place (get_or places k d) key 0 (h.lacking k d lt)));
        lacking = h.lacking;
        others = λ q lt ne. h.others q (omega arith) ne;
        counted = omega (arith, h.counted);
      }

-- # Tables

pub slot_fits : (slot : ℕ) → IsSlot slot → slot < 65536
slot_fits slot (inl h) = omega (arith, h.1)
slot_fits slot (inr (inl h)) = omega (arith, h.1)
slot_fits slot (inr (inr (inl h))) = omega (arith, h.1)
slot_fits slot (inr (inr (inr (inl h)))) = omega (arith, h.1)
slot_fits slot (inr (inr (inr (inr h)))) = omega (arith, h.1)

module _ {A : Type 0} (layout : Layout A) (table : List A) where
  pub table_push_lacks : (e : A) (places : List ℕ) → IsOrder (keys_of layout table) places → LacksOne (keys_of layout (table ++ e ∷ [])) places (length table)
  table_push_lacks e places h =
      subst (λ (keys : List ℕ). LacksOne keys places (length table)) (sym (map-append layout.key table (e ∷ [])))
      (subst (λ (k : ℕ). LacksOne (keys_of layout table ++ layout.key e ∷ []) places k) (length-map table layout.key)
      (push_lacks (keys_of layout table) places (layout.key e) h))

  pub table_set_lacks : (place : ℕ) (e : A) (places : List ℕ) → LacksOne (keys_of layout table) places place
      → LacksOne (keys_of layout (set table place e)) places place
  table_set_lacks place e places h =
      subst (λ (keys : List ℕ). LacksOne keys places place) (sym (map-set layout.key table place e))
      (set_lacks (keys_of layout table) places place (layout.key e) h)

  -- an entry of the same key leaves the order
  pub same_order : (place : ℕ) (e d : A) (places : List ℕ) → layout.key e ≡ layout.key (get_or table place d) → IsOrder (keys_of layout table) places
      → IsOrder (keys_of layout (set table place e)) places
  same_order place e d places same h = subst (λ (keys : List ℕ). IsOrder keys places) (sym (map-set_same layout.key table place e d same)) h

  -- an entry that rests like another one has its key
  pub same_rest_key : (place : ℕ) (e : A) → ((a : A) → layout.key (layout.rest a) ≡ layout.key a) → place < length table
      → IfSome (slice_get table place) (λ before. layout.rest e ≡ layout.rest before) → layout.key e ≡ layout.key (get_or table place e)
  same_rest_key place e keeps within same =
      let rests = subst (λ o. IfSome o (λ before. layout.rest e ≡ layout.rest before)) (slice_get-get_or table place e within) same in
      sym (keeps e) ∙ ap layout.key rests ∙ keeps (get_or table place e)

  -- the entry at a place stands at the rank of its key
  pub stands : (place : ℕ) (e : A) → place < length table → e ≡ get_or table place e → (key : ℕ) → key ≡ layout.key e
      → (inside places : List ℕ) (rank : ℕ) → inside ≡ places → IsOrder (keys_of layout table) places → IsRank (keys_of layout table) places key rank
      → (rank < length inside) × (get_or inside rank place ≡ place)
  stands place e within is key its inside places rank same h r =
      let keys : List ℕ = keys_of layout table in
      let len = length-map table layout.key in
      let here : slice_index keys place ≡ key = get_or-map layout.key table place e 0 within ∙ sym (ap layout.key is) ∙ sym its in
      ranked keys inside key rank place (subst (λ (ps : List ℕ). IsOrder keys ps) (sym same) h) (subst (λ (ps : List ℕ). IsRank keys ps key rank) (sym same) r)
      (omega arith) here

  -- what an entry more asks of the order
  pub more_lacks : (e : A) (inside next : List A) (places : List ℕ) (room at : ℕ) → IsTableOf layout room table places → length table < layout.slots
      → IsFree layout table (length table) (layout.key e) → inside ≡ next → next ≡ table ++ e ∷ [] → at ≡ length table
      → IsTable layout next × (IsTable layout inside × ((at < length inside) × (LacksOne (keys_of layout inside) places at × (length places < room))))
  more_lacks e inside next places room at h short free same more is =
      let sound = IsTable-push layout table e h.sound short free in
      let all = same ∙ more in
      let long = ap length all ∙ length-append table (e ∷ []) in
      let len = length-map table layout.key in (
        subst (λ (t : List A). IsTable layout t) (sym more) sound,
        (
          subst (λ (t : List A). IsTable layout t) (sym all) sound,
          (
            omega (arith, long),
            (
              subst (λ (t : List A). LacksOne (keys_of layout t) places at) (sym all)
                  (subst (λ (k : ℕ). LacksOne (keys_of layout (table ++ e ∷ [])) places k) (sym is) (table_push_lacks e places h.order)),
              omega (arith, h.whole, h.order.counted),
            ),
          ),
        ),
      )

  -- what an entry of another key asks of it
  pub other_lacks : (place at : ℕ) (e : A) (kept inside next : List A) (before places : List ℕ) (room : ℕ) → IsTableOf layout room table before
      → place < length table
      → IsFree layout table place (layout.key e) → kept ≡ table → LacksOne (keys_of layout kept) places place → inside ≡ next → next ≡ set table place e
      → at ≡ place
      → IsTable layout next × (IsTable layout inside × ((at < length inside) × (LacksOne (keys_of layout inside) places at × (length places < room))))
  other_lacks place at e kept inside next before places room h within free old lacks same other is =
      let sound = IsTable-set layout table place e h.sound within free in
      let all = same ∙ other in
      let long = ap length all ∙ length-set table place e in
      let len = length-map table layout.key in
      let lacked = subst (λ (t : List A). LacksOne (keys_of layout t) places place) old lacks in (
        subst (λ (t : List A). IsTable layout t) (sym other) sound,
        (
          subst (λ (t : List A). IsTable layout t) (sym all) sound,
          (
            omega (arith, long),
            (
              subst (λ (t : List A). LacksOne (keys_of layout t) places at) (sym all)
                  (subst (λ (k : ℕ). LacksOne (keys_of layout (set table place e)) places k) (sym is) (table_set_lacks place e places lacked)),
              omega (arith, h.whole, h.sound.short, lacked.counted),
            ),
          ),
        ),
      )

  -- an entry of the same key
  pub same_table : (place : ℕ) (e : A) (places : List ℕ) (room : ℕ) → IsTableOf layout room table places → place < length table
      → layout.key e ≡ layout.key (get_or table place e) → IsFree layout table place (layout.key e) → IsTableOf layout room (set table place e) places
  same_table place e places room h within same free = record {
    sound = IsTable-set layout table place e h.sound within free;
    whole = h.whole;
    order = same_order place e e places same h.order;
  }
