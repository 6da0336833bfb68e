-- How the table that the records give grows from slot to slot, what an opened table holds, and that a table which was
-- stored is opened again.
use Rattle.std.proofs.Common.{◌≡◌, ◌≢◌, ℕ, zero, suc, ◌+◌, ◌<◌, ◌≤◌, Bool, true, false, cond, List, [], ◌∷◌, ◌++◌, Option, Some, None, Result, Ok, Err, length}
use Rattle.std.proofs.Common.{get_or, take, map, refl, sym, ap, subst, ◌∙◌, inl, inr, arith, length-append}
use Rattle.std.specs.Prelude.{position, slice_get, is_some, ◌==◌, ◌⊎◌, IsSome}
use Rattle.std.specs.Option.{option_map, option_map_or}
use Rattle.std.specs.Result.{IfOk, IfErr, OnOk, MatchResult}
use Rattle.std.proofs.lemmas.Bool.{cases_eq, cases_lt}
use Rattle.std.proofs.lemmas.Bool.Decides.{nat_tests}
use Rattle.std.proofs.lemmas.Option.{slice_get_past, slice_get-get_or}
use Rattle.std.proofs.lemmas.List.{length-map, length-take, get_or-map, get_or-take, take_all, take_more, map_push}
use Rattle.std.proofs.lemmas.List.Sums.{position_or_len_is}
use Rattle.std.specs.Ordering.{nat_cmp}
use Rattle.std.specs.FinMap.{get, empty, get-empty}
use Rattle.plc_base.specs.Keeper.{Records}
use Rattle.plc_base.specs.declared.keeper.BadStore.{BadStore}
use Rattle.store_tables.specs.SlotTables.{Layout, slot_of, place_of, IsTable, IsStored, IsGapless, IsReading, IsSecond, IsBad, entry_at, with_record, opened}
use Rattle.store_tables.specs.SlotTables.{opened_from, is_empty_from, read_into}
use Rattle.store_tables.proofs.SlotTables.{slice_get-push, slice_get-push_other, found, free_new, IsTable-push}

-- # The three ways in which a record goes

pub with_record-none : {A : Type 0} (layout : Layout A) (place : ℕ) (table : List A) (octets : List ℕ) → layout.read place octets ≡ None
    → with_record layout place table octets ≡ None
with_record-none layout place table octets e = rw e refl

pub with_record-held : {A : Type 0} (layout : Layout A) (place : ℕ) (table : List A) (octets : List ℕ) (entry : A) → layout.read place octets ≡ Some entry
    → is_some (place_of layout table (layout.key entry)) ≡ true → with_record layout place table octets ≡ None
with_record-held layout place table octets entry e held = rw (e, held) refl

pub with_record-new : {A : Type 0} (layout : Layout A) (place : ℕ) (table : List A) (octets : List ℕ) (entry : A) → layout.read place octets ≡ Some entry
    → is_some (place_of layout table (layout.key entry)) ≡ false → with_record layout place table octets ≡ Some (table ++ entry ∷ [])
with_record-new layout place table octets entry e new = rw (e, new) refl

-- # From slot to slot

pub opened_from-empty : {A : Type 0} (layout : Layout A) (left rest place : ℕ) (records : Records) (table : List A) → left ≡ rest + 1
    → get records (slot_of layout place) ≡ None → is_empty_from layout rest (place + 1) records ≡ true
    → opened_from layout left place records table ≡ Ok table
unfolding opened_from
opened_from-empty layout zero rest place records table h e last = absurd (omega arith)
opened_from-empty layout (suc left) rest place records table h e last = let same : left ≡ rest = omega arith in rw (e, same, last) refl

pub opened_from-lost : {A : Type 0} (layout : Layout A) (left rest place : ℕ) (records : Records) (table : List A) → left ≡ rest + 1
    → get records (slot_of layout place) ≡ None → is_empty_from layout rest (place + 1) records ≡ false
    → opened_from layout left place records table ≡ Err (record { slot = slot_of layout place })
unfolding opened_from
opened_from-lost layout zero rest place records table h e lost = absurd (omega arith)
opened_from-lost layout (suc left) rest place records table h e lost = let same : left ≡ rest = omega arith in rw (e, same, lost) refl

pub opened_from-damaged : {A : Type 0} (layout : Layout A) (left place : ℕ) (records : Records) (table : List A) (octets : List ℕ) → 0 < left
    → get records (slot_of layout place) ≡ Some octets → with_record layout place table octets ≡ None
    → opened_from layout left place records table ≡ Err (record { slot = slot_of layout place })
unfolding opened_from
opened_from-damaged layout zero place records table octets h e damaged = absurd (omega arith)
opened_from-damaged layout (suc left) place records table octets h e damaged = rw (e, damaged) refl

pub opened_from-more : {A : Type 0} (layout : Layout A) (left rest place : ℕ) (records : Records) (table next : List A) (octets : List ℕ) → left ≡ rest + 1
    → get records (slot_of layout place) ≡ Some octets → with_record layout place table octets ≡ Some next
    → opened_from layout left place records table ≡ opened_from layout rest (place + 1) records next
unfolding opened_from
opened_from-more layout zero rest place records table next octets h e more = absurd (omega arith)
opened_from-more layout (suc left) rest place records table next octets h e more = let same : left ≡ rest = omega arith in rw (e, more, same) refl

pub opened_from-none_left : {A : Type 0} (layout : Layout A) (place : ℕ) (records : Records) (table : List A)
    → opened_from layout 0 place records table ≡ Ok table
unfolding opened_from
opened_from-none_left layout place records table = refl

-- # Behind an empty slot

pub is_empty_from-none_left : {A : Type 0} (layout : Layout A) (place : ℕ) (records : Records) → is_empty_from layout 0 place records ≡ true
unfolding is_empty_from
is_empty_from-none_left layout place records = refl

pub is_empty_from-held : {A : Type 0} (layout : Layout A) (left place : ℕ) (records : Records) (octets : List ℕ) → 0 < left
    → get records (slot_of layout place) ≡ Some octets → is_empty_from layout left place records ≡ false
unfolding is_empty_from
is_empty_from-held layout zero place records octets h e = absurd (omega arith)
is_empty_from-held layout (suc left) place records octets h e = rw e refl

pub is_empty_from-more : {A : Type 0} (layout : Layout A) (left rest place : ℕ) (records : Records) → left ≡ rest + 1
    → get records (slot_of layout place) ≡ None → is_empty_from layout left place records ≡ is_empty_from layout rest (place + 1) records
unfolding is_empty_from
is_empty_from-more layout zero rest place records h e = absurd (omega arith)
is_empty_from-more layout (suc left) rest place records h e = let same : left ≡ rest = omega arith in rw (e, same) refl

-- a record at the first of the slots, or none
pub is_empty_from-some : {A : Type 0} (layout : Layout A) (left place : ℕ) (records : Records) → 0 < left
    → is_some (get records (slot_of layout place)) ≡ true → is_empty_from layout left place records ≡ false
is_empty_from-some layout left place records h there = by_record (get records (slot_of layout place)) refl there
  where
    by_record : (o : Option (List ℕ)) → get records (slot_of layout place) ≡ o → is_some o ≡ true → is_empty_from layout left place records ≡ false
    by_record None is e = absurd (cc)
    by_record (Some octets) is e = is_empty_from-held layout left place records octets h is

pub is_empty_from-next : {A : Type 0} (layout : Layout A) (left rest place : ℕ) (records : Records) → left ≡ rest + 1
    → is_some (get records (slot_of layout place)) ≡ false → is_empty_from layout left place records ≡ is_empty_from layout rest (place + 1) records
is_empty_from-next layout left rest place records h none = by_record (get records (slot_of layout place)) refl none
  where
    by_record : (o : Option (List ℕ)) → get records (slot_of layout place) ≡ o → is_some o ≡ false
        → is_empty_from layout left place records ≡ is_empty_from layout rest (place + 1) records
    by_record None is e = is_empty_from-more layout left rest place records h is
    by_record (Some octets) is e = absurd (cc)

-- where no record stands, each slot is empty
each_empty : {A : Type 0} (layout : Layout A) (left place : ℕ) (records : Records) → is_empty_from layout left place records ≡ true
    → (q : ℕ) → place ≤ q → q < place + left → get records (slot_of layout q) ≡ None
each_empty layout zero place records e q above below = absurd (omega arith)
each_empty layout (suc left) place records e q above below = by_record (get records (slot_of layout place)) refl
    (λ h within. each_empty layout left (place + 1) records h q within (omega arith))
  where
    by_record : (o : Option (List ℕ)) → get records (slot_of layout place) ≡ o
        → (is_empty_from layout left (place + 1) records ≡ true → place + 1 ≤ q → get records (slot_of layout q) ≡ None)
        → get records (slot_of layout q) ≡ None
    by_record (Some octets) is later =
        let held = is_empty_from-held layout (suc left) place records octets (omega arith) is in absurd (cc (e, held))
    by_record None is later = elim (cases_eq q place) [
      | inl here ↦ ap (λ k. get records (slot_of layout k)) here ∙ is
      | inr other ↦ later (sym (is_empty_from-more layout (suc left) left place records (omega arith) is) ∙ e) (omega arith)
    ]

-- where each slot is empty, no record stands
all_empty : {A : Type 0} (layout : Layout A) (left place : ℕ) (records : Records)
    → ((q : ℕ) → place ≤ q → q < place + left → get records (slot_of layout q) ≡ None) → is_empty_from layout left place records ≡ true
all_empty layout zero place records none = is_empty_from-none_left layout place records
all_empty layout (suc left) place records none =
    is_empty_from-more layout (suc left) left place records (omega arith) (none place (omega arith) (omega arith))
    ∙ all_empty layout left (place + 1) records (λ q above below. none q (omega arith) (omega arith))

-- a record at one of the slots from a place on
record Behind {A : Type 0} (layout : Layout A) (left place : ℕ) (records : Records) : Type 0 where
  later : ℕ
  after : place ≤ later
  within : later < place + left
  there : IsSome (get records (slot_of layout later))

some_behind : {A : Type 0} (layout : Layout A) (left place : ℕ) (records : Records) → is_empty_from layout left place records ≡ false
    → Behind layout left place records
some_behind layout zero place records e = let none = is_empty_from-none_left layout place records in absurd (cc (e, none))
some_behind layout (suc left) place records e = by_record (get records (slot_of layout place)) refl (some_behind layout left (place + 1) records)
  where
    by_record : (o : Option (List ℕ)) → get records (slot_of layout place) ≡ o
        → (is_empty_from layout left (place + 1) records ≡ false → Behind layout left (place + 1) records) → Behind layout (suc left) place records
    by_record (Some octets) is later = record { later = place; after = omega arith; within = omega arith; there = rw is refl }
    by_record None is later =
        let more = later (sym (is_empty_from-more layout (suc left) left place records (omega arith) is) ∙ e) in
        record { later = more.later; after = omega (arith, more.after); within = omega (arith, more.within); there = more.there }

-- # The same records

is_empty_from-same : {A : Type 0} (layout : Layout A) (left place : ℕ) (old new : Records)
    → ((q : ℕ) → get new (slot_of layout q) ≡ get old (slot_of layout q))
    → is_empty_from layout left place new ≡ is_empty_from layout left place old
unfolding is_empty_from
is_empty_from-same layout zero place old new same = refl
is_empty_from-same layout (suc left) place old new same =
    ap (λ o. option_map_or (λ _. false) o (is_empty_from layout left (place + 1) new)) (same place)
    ∙ ap (option_map_or (λ _. false) (get old (slot_of layout place))) (is_empty_from-same layout left (place + 1) old new same)

-- where the slots have the records that they had, the table is read as before
pub opened_from-same : {A : Type 0} (layout : Layout A) (left place : ℕ) (old new : Records) (table : List A)
    → ((q : ℕ) → get new (slot_of layout q) ≡ get old (slot_of layout q))
    → opened_from layout left place new table ≡ opened_from layout left place old table
opened_from-same layout zero place old new table same =
    opened_from-none_left layout place new table ∙ sym (opened_from-none_left layout place old table)
opened_from-same {A = A} layout (suc left) place old new table same =
    by_record (get old (slot_of layout place)) refl (λ next. opened_from-same layout left (place + 1) old new next same)
  where
    by_next : (octets : List ℕ) (o : Option (List A)) → get old (slot_of layout place) ≡ Some octets → with_record layout place table octets ≡ o
        → ((next : List A) → opened_from layout left (place + 1) new next ≡ opened_from layout left (place + 1) old next)
        → opened_from layout (suc left) place new table ≡ opened_from layout (suc left) place old table
    by_next octets None is w later =
        opened_from-damaged layout (suc left) place new table octets (omega arith) (same place ∙ is) w
        ∙ sym (opened_from-damaged layout (suc left) place old table octets (omega arith) is w)
    by_next octets (Some next) is w later =
        opened_from-more layout (suc left) left place new table next octets (omega arith) (same place ∙ is) w
        ∙ later next
        ∙ sym (opened_from-more layout (suc left) left place old table next octets (omega arith) is w)

    by_end : (b : Bool) → get old (slot_of layout place) ≡ None → is_empty_from layout left (place + 1) old ≡ b
        → opened_from layout (suc left) place new table ≡ opened_from layout (suc left) place old table
    by_end true is b =
        opened_from-empty layout (suc left) left place new table (omega arith) (same place ∙ is) (is_empty_from-same layout left (place + 1) old new same ∙ b)
        ∙ sym (opened_from-empty layout (suc left) left place old table (omega arith) is b)
    by_end false is b =
        opened_from-lost layout (suc left) left place new table (omega arith) (same place ∙ is) (is_empty_from-same layout left (place + 1) old new same ∙ b)
        ∙ sym (opened_from-lost layout (suc left) left place old table (omega arith) is b)

    by_record : (o : Option (List ℕ)) → get old (slot_of layout place) ≡ o
        → ((next : List A) → opened_from layout left (place + 1) new next ≡ opened_from layout left (place + 1) old next)
        → opened_from layout (suc left) place new table ≡ opened_from layout (suc left) place old table
    by_record None is later = by_end (is_empty_from layout left (place + 1) old) is refl
    by_record (Some octets) is later = by_next octets (with_record layout place table octets) is refl later

-- a store without records gives no entry
pub opened_empty : {A : Type 0} (layout : Layout A) → opened layout empty ≡ Ok []
opened_empty {A = A} layout = by_slots layout.slots
  where
    none : (q : ℕ) → ◌≡◌ {A = Option (List ℕ)} (get {R = nat_cmp} empty (slot_of layout q)) None
    none q = get-empty nat_cmp (slot_of layout q)

    by_slots : (left : ℕ) → ◌≡◌ {A = Result (List A) BadStore} (opened_from layout left 0 empty []) (Ok [])
    by_slots zero = opened_from-none_left layout 0 empty []
    by_slots (suc left) =
        opened_from-empty layout (suc left) left 0 empty [] (omega arith) (none 0) (all_empty layout left 1 empty (λ q above below. none q))

-- # What an opened table holds

-- the entry that a record gives is as a new start finds it
abbrev pub ReadsAtRest : {A : Type 0} → Layout A → Type 0
ReadsAtRest {A} layout = (place : ℕ) (octets : List ℕ) (entry : A) → layout.read place octets ≡ Some entry → layout.rest entry ≡ entry

-- what a record that was taken gives
record Taken {A : Type 0} (layout : Layout A) (place : ℕ) (table : List A) (octets : List ℕ) (next : List A) : Type 0 where
  entry : A
  reads : layout.read place octets ≡ Some entry
  new : is_some (place_of layout table (layout.key entry)) ≡ false
  longer : next ≡ table ++ entry ∷ []

taken : {A : Type 0} (layout : Layout A) (place : ℕ) (table : List A) (octets : List ℕ) (next : List A) → with_record layout place table octets ≡ Some next
    → Taken layout place table octets next
taken {A = A} layout place table octets next e = by_entry (layout.read place octets) refl e
  where
    by_place : (entry : A) (held : Bool) → layout.read place octets ≡ Some entry → is_some (place_of layout table (layout.key entry)) ≡ held
        → cond held None (Some (table ++ entry ∷ [])) ≡ Some next → Taken layout place table octets next
    by_place entry true is new e = cc
    by_place entry false is new e = record { entry = entry; reads = is; new = new; longer = cc }

    by_entry : (o : Option A) → layout.read place octets ≡ o
        → option_map_or (λ entry. cond (is_some (place_of layout table (layout.key entry))) None (Some (table ++ entry ∷ []))) o None ≡ Some next
        → Taken layout place table octets next
    by_entry None is e = cc
    by_entry (Some entry) is e = by_place entry _ is refl e

-- the places before this one hold what is stored
abbrev KeptBelow : {A : Type 0} → Layout A → ℕ → List A → Records → Type 0
KeptBelow layout place table records =
    (q : ℕ) → q < place → option_map (layout.read q) (get records (slot_of layout q)) ≡ option_map (λ entry. Some (layout.rest entry)) (slice_get table q)

kept_next : {A : Type 0} (layout : Layout A) (place : ℕ) (table next : List A) (records : Records) (octets : List ℕ) → ReadsAtRest layout
    → KeptBelow layout place table records → length table ≡ place
    → get records (slot_of layout place) ≡ Some octets → Taken layout place table octets next → KeptBelow layout (place + 1) next records
kept_next {A = A} layout place table next records octets rests kept len got t q h =
    let shown : Option A → Option (Option A) = option_map (λ p. Some (layout.rest p)) in
    elim (cases_eq q place) [
      | inl here ↦
          ap (λ k. option_map (layout.read k) (get records (slot_of layout k))) here ∙ ap (option_map (layout.read place)) got ∙ ap Some t.reads
          ∙ ap (λ p. Some (Some p)) (sym (rests place octets t.entry t.reads))
          ∙ sym (ap (λ table. shown (slice_get table q)) t.longer ∙ ap (λ k. shown (slice_get (table ++ t.entry ∷ []) k)) (here ∙ sym len)
          ∙ ap shown (slice_get-push table t.entry))
      | inr other ↦
          let ne : q ≢ length table = omega arith in
          kept q (omega arith) ∙ sym (ap (λ table. shown (slice_get table q)) t.longer ∙ ap shown (slice_get-push_other table q t.entry ne))
    ]

-- a record that was taken, where the rest is known
kept_taken : {A : Type 0} (layout : Layout A) (left place : ℕ) (records : Records) (table last : List A) (octets : List ℕ) (o : Option (List A))
    → ReadsAtRest layout
    → with_record layout place table octets ≡ o → get records (slot_of layout place) ≡ Some octets
    → opened_from layout (suc left) place records table ≡ Ok last → length table ≡ place → KeptBelow layout place table records
    → ((next : List A) → opened_from layout left (place + 1) records next ≡ Ok last → length next ≡ place + 1 → KeptBelow layout (place + 1) next records
    → IsStored layout last records)
    → IsStored layout last records
kept_taken layout left place records table last octets None rests w is e len kept rest =
    let damaged = opened_from-damaged layout (suc left) place records table octets (omega arith) is w in
    cc
kept_taken layout left place records table last octets (Some next) rests w is e len kept rest =
    let more = opened_from-more layout (suc left) left place records table next octets (omega arith) is w in
    let new = taken layout place table octets next w in
    rest next (sym more ∙ e) (omega (arith, ap length new.longer, length-append table (new.entry ∷ [])))
    (kept_next layout place table next records octets rests kept len is new)

kept_step : {A : Type 0} (layout : Layout A) (left place : ℕ) (records : Records) (table last : List A) (o : Option (List ℕ)) → ReadsAtRest layout
    → get records (slot_of layout place) ≡ o
    → opened_from layout (suc left) place records table ≡ Ok last → length table ≡ place → place + suc left ≡ layout.slots
    → KeptBelow layout place table records
    → ((next : List A) → opened_from layout left (place + 1) records next ≡ Ok last → length next ≡ place + 1 → KeptBelow layout (place + 1) next records
    → IsStored layout last records)
    → IsStored layout last records
kept_step layout left place records table last (Some octets) rests is e len all kept rest =
    kept_taken layout left place records table last octets _ rests refl is e len kept rest
kept_step layout left place records table last None rests is e len all kept rest = by_end (is_empty_from layout left (place + 1) records) refl
  where
    none_at : is_empty_from layout left (place + 1) records ≡ true → (q : ℕ) → place ≤ q → q < layout.slots → get records (slot_of layout q) ≡ None
    none_at b q above h = elim (cases_eq q place) [
      | inl here ↦ ap (λ k. get records (slot_of layout k)) here ∙ is
      | inr other ↦ each_empty layout left (place + 1) records b q (omega arith) (omega (arith, all))
    ]

    by_end : (b : Bool) → is_empty_from layout left (place + 1) records ≡ b → IsStored layout last records
    by_end false b = let lost = opened_from-lost layout (suc left) left place records table (omega arith) is b in absurd (cc (lost, e))
    by_end true b =
        let empty = opened_from-empty layout (suc left) left place records table (omega arith) is b in
        let same : table ≡ last = cc (empty, e) in
        subst (λ t. IsStored layout t records) same (record {
          short = omega (arith, all, len);
          each = λ q h. elim (cases_lt q place) [
            | inl lower ↦ kept q lower
            | inr above ↦ ap (option_map (layout.read q)) (none_at b q above h)
                ∙ sym (ap (option_map (λ p. Some (layout.rest p))) (slice_get_past table q (omega arith)))
          ];
        })

kept_opened : {A : Type 0} (layout : Layout A) (left place : ℕ) (records : Records) (table last : List A) → ReadsAtRest layout
    → opened_from layout left place records table ≡ Ok last → length table ≡ place → place + left ≡ layout.slots
    → KeptBelow layout place table records → IsStored layout last records
kept_opened layout zero place records table last rests e len all kept =
    let end = opened_from-none_left layout place records table in
    let same : table ≡ last = cc in
    subst (λ t. IsStored layout t records) same (record { short = omega arith; each = λ q h. kept q (omega arith) })
kept_opened layout (suc left) place records table last rests e len all kept =
    kept_step layout left place records table last _ rests refl e len all kept
    (λ next e' len' kept'. kept_opened layout left (place + 1) records next last rests e' len' (omega arith) kept')

-- an opened table is stored
pub opened_kept : {A : Type 0} (layout : Layout A) (records : Records) (r : Result (List A) BadStore) → ReadsAtRest layout → r ≡ opened layout records
    → IfOk r (λ table. IsStored layout table records)
opened_kept layout records (Ok table) rests e =
    kept_opened layout layout.slots 0 records [] table rests (sym e) refl (omega arith) (λ q h. absurd (omega arith))
opened_kept layout records (Err bad) rests e = tt

-- an empty store has no gap
pub empty_gapless : {A : Type 0} (layout : Layout A) (records : Records) → records ≡ empty → IsGapless layout records
empty_gapless layout records e i j lt within none = ap (λ m. get m (slot_of layout j)) e ∙ get-empty nat_cmp (slot_of layout j)

some_there : {A : Type 0} (xs : List A) (k : ℕ) → slice_get xs k ≡ None → k < length xs → ⊥
some_there [] k e h = omega arith
some_there (x ∷ xs) zero e h = cc
some_there (x ∷ xs) (suc k) e h = some_there xs k e (omega arith)

-- a table that is stored has no gap
pub stored_gapless : {A : Type 0} (layout : Layout A) (table : List A) (records : Records) → IsStored layout table records → IsGapless layout records
stored_gapless {A = A} layout table records stored i j lt within none = behind (get records (slot_of layout j)) refl
  where
    ended : (o : Option A) → slice_get table i ≡ o → None ≡ option_map (λ entry. Some (layout.rest entry)) o → length table ≤ i
    ended None is e = elim (cases_lt i (length table)) [
      | inl inside ↦ absurd (some_there table i is inside)
      | inr past ↦ past
    ]
    ended (Some entry) is e = cc

    behind : (o : Option (List ℕ)) → get records (slot_of layout j) ≡ o → get records (slot_of layout j) ≡ None
    behind None is = is
    behind (Some octets) is =
        let here : None ≡ option_map (λ entry. Some (layout.rest entry)) (slice_get table i) = ap (option_map (layout.read i)) (sym none)
        ∙ stored.each i (omega arith) in
        let past = ended (slice_get table i) refl here in
        let there = sym (ap (option_map (layout.read j)) is) ∙ stored.each j within
        ∙ ap (option_map (λ entry. Some (layout.rest entry))) (slice_get_past table j (omega arith)) in
        absurd (cc (there))

-- # A table that was stored is opened again as it rests

-- the places below this one are read, and the rest is to come
abbrev at_places : {A : Type 0} → Layout A → List A → ℕ → List A
at_places layout table place = map layout.rest (take place table)

-- the record at a place of the table is the one of its entry
record ReadAt {A : Type 0} (layout : Layout A) (records : Records) (place : ℕ) (entry : A) : Type 0 where
  octets : List ℕ
  got : get records (slot_of layout place) ≡ Some octets
  reads : layout.read place octets ≡ Some entry

read_at : {A : Type 0} (layout : Layout A) (table : List A) (records : Records) (place : ℕ) (d : A) → IsStored layout table records → place < length table
    → place < layout.slots
    → ReadAt layout records place (layout.rest (get_or table place d))
read_at layout table records place d stored within h =
    by_record (get records (slot_of layout place)) refl
    (stored.each place h ∙ ap (option_map (λ p. Some (layout.rest p))) (slice_get-get_or table place d within))
  where
    by_record : (o : Option (List ℕ)) → get records (slot_of layout place) ≡ o
        → option_map (layout.read place) o ≡ Some (Some (layout.rest (get_or table place d)))
        → ReadAt layout records place (layout.rest (get_or table place d))
    by_record None is e = cc
    by_record (Some octets) is e = record { octets = octets; got = is; reads = cc }

-- after the table there is no record
pub none_behind : {A : Type 0} (layout : Layout A) (table : List A) (records : Records) (place : ℕ) → IsStored layout table records → length table ≤ place
    → place < layout.slots
    → get records (slot_of layout place) ≡ None
none_behind layout table records place stored past h =
    by_record (get records (slot_of layout place)) refl (stored.each place h ∙ ap (option_map (λ p. Some (layout.rest p))) (slice_get_past table place past))
  where
    by_record : (o : Option (List ℕ)) → get records (slot_of layout place) ≡ o → option_map (layout.read place) o ≡ None
        → get records (slot_of layout place) ≡ None
    by_record None is e = is
    by_record (Some octets) is e = cc

differ : (a b : ℕ) → a ≢ b → (a == b) ≡ false
differ a b h = grind (arith, nat_tests)

-- where no place passes the test, there is no first one
none_passes : {A : Type 0} (test : A → Bool) (table : List A) (d : A) → ((k : ℕ) → k < length table → test (get_or table k d) ≡ false)
    → is_some (position test table) ≡ false
none_passes test table d h =
    let none = position_or_len_is test table (length table) d (omega arith) h (λ lt. absurd (omega arith)) in
    grind (arith, nat_tests)

-- the entry at a place is none of those before it
not_before : {A : Type 0} (layout : Layout A) (table : List A) (place : ℕ) (d : A) → ((e : A) → layout.key (layout.rest e) ≡ layout.key e)
    → IsTable layout table
    → place < length table → is_some (place_of layout (at_places layout table place) (layout.key (layout.rest (get_or table place d)))) ≡ false
not_before {A = A} layout table place d keys h within =
    none_passes (λ entry. layout.key entry == layout.key (layout.rest (get_or table place d))) (map layout.rest (take place table)) d differs
  where
    differs : (k : ℕ) → k < length (map layout.rest (take place table))
        → (layout.key (get_or (map layout.rest (take place table)) k d) == layout.key (layout.rest (get_or table place d))) ≡ false
    differs k lt =
        let below : k < place = omega (arith, length-map (take place table) layout.rest, length-take place table) in
        let first : k < length (take place table) = omega (arith, length-map (take place table) layout.rest) in
        let same = ap layout.key (get_or-map layout.rest (take place table) k d d first ∙ ap layout.rest (get_or-take place table k d below))
        ∙ keys (get_or table k d) in
        differ _ _ (λ e. h.distinct k place d below within (sym same ∙ e ∙ keys (get_or table place d)))

-- one entry is read, where the rest is known
reopened_one : {A : Type 0} (layout : Layout A) (left place : ℕ) (records : Records) (table : List A) (o : Option A)
    → ((e : A) → layout.key (layout.rest e) ≡ layout.key e)
    → IsTable layout table → IsStored layout table records → place + suc left ≡ layout.slots → slice_get table place ≡ o → place < length table
    → opened_from layout left (place + 1) records (at_places layout table (place + 1)) ≡ Ok (map layout.rest table)
    → opened_from layout (suc left) place records (at_places layout table place) ≡ Ok (map layout.rest table)
reopened_one layout left place records table None keys h stored all is within rest = absurd (some_there table place is within)
reopened_one {A = A} layout left place records table (Some d) keys h stored all is within rest =
    let read = read_at layout table records place d stored within (omega arith) in
    let entry : A = layout.rest (get_or table place d) in
    let more = with_record-new layout place (at_places layout table place) read.octets entry read.reads (not_before layout table place d keys h within) in
    opened_from-more layout (suc left) left place records (at_places layout table place) (at_places layout table place ++ entry ∷ []) read.octets (omega arith)
    read.got more
    ∙ ap (opened_from layout left (place + 1) records)
    (sym (ap (map layout.rest) (take_more table place d within) ∙ map_push layout.rest (take place table) (get_or table place d)))
    ∙ rest

reopened_from : {A : Type 0} (layout : Layout A) (left place : ℕ) (records : Records) (table : List A) → ((e : A) → layout.key (layout.rest e) ≡ layout.key e)
    → IsTable layout table → IsStored layout table records → place + left ≡ layout.slots
    → opened_from layout left place records (at_places layout table place) ≡ Ok (map layout.rest table)
reopened_from layout zero place records table keys h stored all =
    opened_from-none_left layout place records (at_places layout table place) ∙ ap (λ t. Ok (map layout.rest t)) (take_all place table (omega (arith, h.short)))
reopened_from layout (suc left) place records table keys h stored all =
    elim (cases_lt place (length table)) [
      | inl within ↦ reopened_one layout left place records table (slice_get table place) keys h stored all refl within
          (reopened_from layout left (place + 1) records table keys h stored (omega arith))
      | inr past ↦
          opened_from-empty layout (suc left) left place records (at_places layout table place) (omega arith)
          (none_behind layout table records place stored past (omega arith))
          (all_empty layout left (place + 1) records (λ q above below.
          none_behind layout table records q stored (omega (arith, above, past)) (omega (arith, below, all))))
          ∙ ap (λ t. Ok (map layout.rest t)) (take_all place table past)
    ]

-- the table that the records give is the one that was stored, at rest
pub reopened : {A : Type 0} (layout : Layout A) (records : Records) (table : List A) → ((e : A) → layout.key (layout.rest e) ≡ layout.key e)
    → IsTable layout table → IsStored layout table records → opened layout records ≡ Ok (map layout.rest table)
reopened layout records table keys h stored = reopened_from layout layout.slots 0 records table keys h stored (omega arith)

-- # Which record is bad

-- what was read before this place
record IsReadBelow {A : Type 0} (layout : Layout A) (place : ℕ) (table : List A) (records : Records) : Type 0 where
  sound : IsTable layout table
  count : length table ≡ place
  each : (q : ℕ) → q < place → entry_at layout records q ≡ slice_get table q
  there : (q : ℕ) → q < place → IsSome (get records (slot_of layout q))

Reads : {A : Type 0} → Layout A → Records → Result (List A) BadStore → Type 0
Reads layout records r = MatchResult r (λ table. IsReading layout table records) (λ bad. IsBad layout records bad.slot)

up_to : {A : Type 0} (layout : Layout A) (place : ℕ) (table : List A) (records : Records) (octets : List ℕ) → IsReadBelow layout place table records
    → get records (slot_of layout place) ≡ Some octets → (q : ℕ) → q ≤ place → IsSome (get records (slot_of layout q))
up_to layout place table records octets below got q h = elim (cases_lt q place) [
  | inl lower ↦ below.there q lower
  | inr above ↦ let e : q ≡ place = omega arith in rw (e, got) refl
]

entry_there : {A : Type 0} (layout : Layout A) (place : ℕ) (records : Records) (octets : List ℕ) → get records (slot_of layout place) ≡ Some octets
    → entry_at layout records place ≡ layout.read place octets
entry_there layout place records octets got = rw got refl

second : {A : Type 0} (layout : Layout A) (place : ℕ) (table : List A) (records : Records) (octets : List ℕ) (entry : A)
    → IsReadBelow layout place table records
    → get records (slot_of layout place) ≡ Some octets → layout.read place octets ≡ Some entry → is_some (place_of layout table (layout.key entry)) ≡ true
    → IsSecond layout records place
second layout place table records octets entry below got reads held = go (place_of layout table (layout.key entry)) refl held
  where
    here : entry_at layout records place ≡ Some entry
    here = entry_there layout place records octets got ∙ reads

    go : (o : Option ℕ) → place_of layout table (layout.key entry) ≡ o → is_some o ≡ true → IsSecond layout records place
    go None is h = absurd (cc (h))
    go (Some q) is h =
        let there = found layout table (layout.key entry) q entry is in
        record {
          earlier = q;
          before = omega (arith, below.count);
          there = rw here refl;
          same = ap (option_map layout.key) (below.each q (omega (arith, below.count)) ∙ slice_get-get_or table q entry there.0)
              ∙ ap Some there.1 ∙ sym (ap (option_map layout.key) here);
        }

bad_record : {A : Type 0} (layout : Layout A) (place : ℕ) (table : List A) (records : Records) (octets : List ℕ) → IsReadBelow layout place table records
    → get records (slot_of layout place) ≡ Some octets → with_record layout place table octets ≡ None
    → (entry_at layout records place ≡ None) ⊎ IsSecond layout records place
bad_record {A = A} layout place table records octets below got damaged = by_entry (layout.read place octets) refl damaged
  where
    by_place : (entry : A) (held : Bool) → layout.read place octets ≡ Some entry → is_some (place_of layout table (layout.key entry)) ≡ held
        → cond held None (Some (table ++ entry ∷ [])) ≡ None → (entry_at layout records place ≡ None) ⊎ IsSecond layout records place
    by_place entry true is h e = inr (second layout place table records octets entry below got is h)
    by_place entry false is h e = absurd (cc (e))

    by_entry : (o : Option A) → layout.read place octets ≡ o
        → option_map_or (λ entry. cond (is_some (place_of layout table (layout.key entry))) None (Some (table ++ entry ∷ []))) o None ≡ None
        → (entry_at layout records place ≡ None) ⊎ IsSecond layout records place
    by_entry None is e = inl (entry_there layout place records octets got ∙ is)
    by_entry (Some entry) is e = by_place entry _ is refl e

read_more : {A : Type 0} (layout : Layout A) (place : ℕ) (table next : List A) (records : Records) (octets : List ℕ) → IsReadBelow layout place table records
    → place < layout.slots → get records (slot_of layout place) ≡ Some octets → Taken layout place table octets next
    → IsReadBelow layout (place + 1) next records
read_more layout place table next records octets below within got t = record {
  sound = subst (λ next. IsTable layout next) (sym t.longer)
      (IsTable-push layout table t.entry below.sound (omega (arith, below.count)) (free_new layout table (layout.key t.entry) (length table) t.new));
  count = omega (arith, below.count, ap length t.longer, length-append table (t.entry ∷ []));
  each = λ q h.
      elim (cases_eq q place) [
        | inl here ↦ ap (entry_at layout records) here ∙ entry_there layout place records octets got ∙ t.reads
            ∙ sym (ap (λ xs. slice_get xs q) t.longer ∙ ap (slice_get (table ++ t.entry ∷ [])) (here ∙ sym below.count) ∙ slice_get-push table t.entry)
        | inr other ↦
            let ne : q ≢ length table = omega (arith, below.count) in
            below.each q (omega arith) ∙ sym (ap (λ xs. slice_get xs q) t.longer ∙ slice_get-push_other table q t.entry ne)
      ];
  there = λ q h. up_to layout place table records octets below got q (omega arith);
}

reads_step : {A : Type 0} (layout : Layout A) (left place : ℕ) (records : Records) (table : List A) (r : Result (List A) BadStore) (o : Option (List ℕ))
    → get records (slot_of layout place) ≡ o → opened_from layout (suc left) place records table ≡ r → place + suc left ≡ layout.slots
    → IsReadBelow layout place table records
    → ((next : List A) → opened_from layout left (place + 1) records next ≡ r → IsReadBelow layout (place + 1) next records → Reads layout records r)
    → Reads layout records r
unfolding Reads
reads_step {A = A} layout left place records table r None is e all below rest = by_end (is_empty_from layout left (place + 1) records) refl
  where
    by_end : (b : Bool) → is_empty_from layout left (place + 1) records ≡ b
        → MatchResult r (λ table. IsReading layout table records) (λ bad. IsBad layout records bad.slot)
    by_end true b =
        let empty = opened_from-empty layout (suc left) left place records table (omega arith) is b in
        subst (λ r. MatchResult r (λ table. IsReading layout table records) (λ bad. IsBad layout records bad.slot)) (sym empty ∙ e) (record {
          sound = below.sound;
          each = λ q h. below.each q (omega (arith, below.count));
          ended = λ q past h. elim (cases_eq q place) [
            | inl here ↦ ap (λ k. get records (slot_of layout k)) here ∙ is
            | inr other ↦ each_empty layout left (place + 1) records b q (omega (arith, below.count)) (omega (arith, all))
          ];
        })
    by_end false b =
        let lost = opened_from-lost layout (suc left) left place records table (omega arith) is b in
        let behind = some_behind layout left (place + 1) records b in
        subst (λ r. MatchResult r (λ table. IsReading layout table records) (λ bad. IsBad layout records bad.slot)) (sym lost ∙ e) (record {
          place = place;
          within = omega (arith, all);
          here = refl;
          reached = below.there;
          wrong = inr (record {
            empty = is;
            later = behind.later;
            after = omega (arith, behind.after);
            within = omega (arith, behind.within, all);
            behind = behind.there;
          });
        })
reads_step {A = A} layout left place records table r (Some octets) is e all below rest = go (with_record layout place table octets) refl
  where
    go : (o : Option (List A)) → with_record layout place table octets ≡ o
        → MatchResult r (λ table. IsReading layout table records) (λ bad. IsBad layout records bad.slot)
    go None w =
        let damaged = opened_from-damaged layout (suc left) place records table octets (omega arith) is w in
        subst (λ r. MatchResult r (λ table. IsReading layout table records) (λ bad. IsBad layout records bad.slot)) (sym damaged ∙ e) (record {
          place = place;
          within = omega arith;
          here = refl;
          reached = below.there;
          wrong = inl (record { there = rw is refl; why = bad_record layout place table records octets below is w });
        })
    go (Some next) w =
        let more = opened_from-more layout (suc left) left place records table next octets (omega arith) is w in
        rest next (sym more ∙ e) (read_more layout place table next records octets below (omega arith) is (taken layout place table octets next w))

reads_from : {A : Type 0} (layout : Layout A) (left place : ℕ) (records : Records) (table : List A) (r : Result (List A) BadStore)
    → opened_from layout left place records table ≡ r → place + left ≡ layout.slots → IsReadBelow layout place table records → Reads layout records r
unfolding Reads
reads_from layout zero place records table r e all below =
    let end = opened_from-none_left layout place records table in
    subst (λ r. MatchResult r (λ table. IsReading layout table records) (λ bad. IsBad layout records bad.slot)) (sym end ∙ e) (record {
      sound = below.sound;
      each = λ q h. below.each q (omega (arith, below.count));
      ended = λ q past h. absurd (omega (arith, below.count));
    })
reads_from layout (suc left) place records table r e all below =
    reads_step layout left place records table r _ refl e all below
    (λ next e' below'. reads_from layout left (place + 1) records next r e' (omega arith) below')

-- an opened table has the entry of each record, and else the record that it names is bad
pub opened_reads : {A : Type 0} (layout : Layout A) (records : Records) (r : Result (List A) BadStore) → r ≡ opened layout records
    → MatchResult r (λ table. IsReading layout table records) (λ bad. IsBad layout records bad.slot)
unfolding Reads
opened_reads layout records r e = reads_from layout layout.slots 0 records [] r (sym e) (omega arith) (record {
  sound = record { distinct = λ i j d lt within. absurd (omega arith); short = omega arith };
  count = refl;
  each = λ q h. absurd (omega arith);
  there = λ q h. absurd (omega arith);
})

-- what a table that was read again holds
pub reloaded : {A : Type 0} (layout : Layout A) (records : Records) (r : Result (Unit {0}) BadStore) (t : List A) → ReadsAtRest layout
    → ((e : A) → layout.key (layout.rest e) ≡ layout.key e) → read_into r t ≡ opened layout records
    → OnOk r (IsReading layout t records) × OnOk r (IsStored layout t records)
    × ((table : List A) → IsTable layout table → IsStored layout table records → (r ≡ Ok tt) × (t ≡ map layout.rest table))
    × IfErr r (λ bad. IsBad layout records bad.slot)
reloaded {A = A} layout records (Ok u) t rests keys e = (
  opened_reads layout records (Ok t) e,
  opened_kept layout records (Ok t) rests e,
  λ table h k. (refl, ok_is t (map layout.rest table) (e ∙ reopened layout records table keys h k)),
  tt,
)
  where
    ok_is : (a b : List A) → ◌≡◌ {A = Result (List A) BadStore} (Ok a) (Ok b) → a ≡ b
    ok_is a b same = cc
reloaded {A = A} layout records (Err bad) t rests keys e = (
  tt,
  tt,
  λ table h k. absurd (never (map layout.rest table) (e ∙ reopened layout records table keys h k)),
  opened_reads layout records (Err bad) e,
)
  where
    never : (b : List A) → ◌≡◌ {A = Result (List A) BadStore} (Err bad) (Ok b) → ⊥
    never b same = cc
