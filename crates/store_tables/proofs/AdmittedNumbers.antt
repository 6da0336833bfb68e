-- A number is admitted only above all that were admitted of its address.
use Rattle.std.proofs.Common.{◌≡◌, ◌≢◌, ◌⊎◌, inl, inr, ℕ, zero, suc, ◌^◌, ◌<◌, ◌≤◌, true, false, List, [], ◌∷◌, ◌++◌, Option, Some, None, Ok, length, map}
use Rattle.std.proofs.Common.{get_or, set, refl, sym, ap, subst, ◌∙◌, arith}
use Rattle.std.specs.Prelude.{nat_lt, is_some, IfSome, slice_get}
use Rattle.std.specs.Option.{option_map}
use Rattle.std.specs.FinMap.{get}
use Rattle.std.proofs.lemmas.Bool.{cases_eq, cases_lt, ltb-true}
use Rattle.std.proofs.lemmas.Option.{slice_get-get_or}
use Rattle.std.proofs.lemmas.List.{length-map, get_or-map}
use Rattle.std.proofs.lemmas.List.Elements.{All-push, All-set}
use Rattle.plc_base.specs.Keeper.{Records, Store, Stores}
use Rattle.store_tables.specs.SlotTables.{Layout, IsTable, IsFree, IsStored, IsReading, slot_of, opened}
use Rattle.store_tables.specs.declared.marks.Mark.{Mark}
use Rattle.store_tables.specs.Marks.{Table, layout, slots_of, at_rest, IsCovered, place_of, mark_ahead, mark_in-rests, has_room, keep_write, kept_after}
use Rattle.store_tables.specs.AdmittedNumbers.{Admitted, AllEarlier, IsNew, EachOnce}
use Rattle.store_tables.proofs.SlotTables.{slice_get-set, slice_get-set_other, slice_get-push, slice_get-push_other, slice_get-map, found, apart, free_new}
use Rattle.store_tables.proofs.SlotTables.{free_found, IsTable-set, IsTable-push, stored_set, stored_push, stored_rest, stored_map, set_either, push_either}
use Rattle.store_tables.proofs.OpenedTables.{opened_kept, opened_reads, reopened}
use Rattle.store_tables.proofs.MarkEntries.{mark_in-octets_of, room_new, kept_low, kept_high, write_low, write_high}

module _ (first count : ℕ) where
  abbrev Entry : Type 0
  Entry = Mark first count

  abbrev Marks : Type 0
  Marks = Table first count

  -- how they are stored
  abbrev marks : Layout Entry
  marks = layout first count

  -- the address is held, with a mark that is no lower
  pub record Marked (table : Marks) (a : Admitted) : Type 0 where
    pub place : ℕ
    pub entry : Entry
    pub there : slice_get table place ≡ Some entry
    pub same : entry.address ≡ a.address
    pub above : a.number ≤ entry.mark

  abbrev pub AllMarked : Marks → List Admitted → Type 0
  AllMarked table [] = Unit {0}
  AllMarked table (a ∷ before) = Marked table a × AllMarked table before

  AllMarked-map : (table next : Marks) (before : List Admitted) → ((a : Admitted) → Marked table a → Marked next a) → AllMarked table before
      → AllMarked next before
  AllMarked-map table next [] f h = tt
  AllMarked-map table next (a ∷ before) f h = (f a h.0, AllMarked-map table next before f h.1)

  abbrev no_entry : Entry
  no_entry = record { address = 0; mark = 0; stored = 0 }

  inside : (table : Marks) (place : ℕ) (entry : Entry) → slice_get table place ≡ Some entry → place < length table
  inside [] place entry e = cc
  inside (p ∷ table) zero entry e = omega arith
  inside (p ∷ table) (suc place) entry e = let h = inside table place entry e in omega arith

  at_default : (table : Marks) (place : ℕ) (entry d : Entry) → slice_get table place ≡ Some entry → get_or table place d ≡ entry
  at_default table place entry d e = let there = slice_get-get_or table place d (inside table place entry e) in cc

  -- # The marks at rest

  covered_at : (table : Marks) (place : ℕ) (entry : Entry) → IsCovered first count table → slice_get table place ≡ Some entry → entry.mark ≤ entry.stored
  covered_at table place entry covered e =
      subst (λ (p : Entry). p.mark ≤ p.stored) (at_default table place entry entry e) (covered place entry (inside table place entry e))

  rest_marked : (table : Marks) (a : Admitted) → IsCovered first count table → Marked table a → Marked (map (at_rest first count) table) a
  rest_marked table a covered m = record {
    place = m.place;
    entry = at_rest first count m.entry;
    there = slice_get-map (at_rest first count) table m.place ∙ ap (option_map (at_rest first count)) m.there;
    same = m.same;
    above = omega (arith, m.above, covered_at table m.place m.entry covered m.there);
  }

  rest_sound : (table : Marks) → IsTable marks table → IsTable marks (map (at_rest first count) table)
  rest_sound table h = record {
    distinct = λ i j d lt within.
        let last : j < length table = omega (arith, length-map table (at_rest first count)) in
        let a = ap (λ (p : Entry). p.address) (get_or-map (at_rest first count) table i d d (omega arith)) in
        let b = ap (λ (p : Entry). p.address) (get_or-map (at_rest first count) table j d d last) in
        λ eq. h.distinct i j d lt last (sym a ∙ eq ∙ b);
    short = omega (arith, h.short, length-map table (at_rest first count));
  }

  rest_covered : (table : Marks) → IsCovered first count (map (at_rest first count) table)
  rest_covered table place d within =
      let same = get_or-map (at_rest first count) table place d d (omega (arith, length-map table (at_rest first count))) in
      subst (λ (p : Entry). p.mark ≤ p.stored) (sym same) (omega arith)

  -- # One number kept

  -- What keeping a number makes of a table.
  record Steps (table : Marks) (address number : ℕ) (next : Marks) : Type 0 where
    sound : IsTable marks next
    covered : IsCovered first count next
    marked : (a : Admitted) → Marked table a → Marked next a
    here : Marked next (record { address = address; number = number })
    below : (a : Admitted) → Marked table a → a.address ≡ address → a.number < number
    stored : (old new : Store) → IsStored marks table old.records → Stores old (keep_write first count table address number) true new
        → IsStored marks next new.records
    either : (old new : Store) → IsStored marks table old.records → Stores old (keep_write first count table address number) false new
        → IsStored marks table new.records ⊎ IsStored marks next new.records

  -- the address stands at a place, and gets another entry there with the number as its mark
  set_marked : (table : Marks) (address number place : ℕ) (was entry : Entry) → slice_get table place ≡ Some was → was.mark < number
      → entry.address ≡ was.address → entry.mark ≡ number
      → (a : Admitted) → Marked table a → Marked (set table place entry) a
  set_marked table address number place was entry there above same mark a m =
      elim (cases_eq m.place place) [
        | inl here ↦
            let one : was ≡ m.entry = cc (there, m.there, ap (slice_get table) here) in
            record {
              place = place;
              entry = entry;
              there = slice_get-set table place entry (inside table place was there);
              same = same ∙ ap (λ (p : Entry). p.address) one ∙ m.same;
              above = omega (arith, m.above, above, mark, ap (λ (p : Entry). p.mark) one);
            }
        | inr other ↦ record {
          place = m.place;
          entry = m.entry;
          there = slice_get-set_other table place m.place entry other ∙ m.there;
          same = m.same;
          above = m.above;
        }
      ]

  set_below : (table : Marks) (address number place : ℕ) (was : Entry) → IsTable marks table → slice_get table place ≡ Some was → was.address ≡ address
      → was.mark < number
      → (a : Admitted) → Marked table a → a.address ≡ address → a.number < number
  set_below table address number place was h there named above a m same =
      elim (cases_eq m.place place) [
        | inl here ↦
            let one : was ≡ m.entry = cc (there, m.there, ap (slice_get table) here) in
            omega (arith, m.above, above, ap (λ (p : Entry). p.mark) one)
        | inr other ↦ elim (cases_lt m.place place) [
          | inl lower ↦ absurd (h.distinct m.place place was lower (inside table place was there)
              (ap (λ (p : Entry). p.address) (at_default table m.place m.entry was m.there) ∙ m.same ∙ same ∙ sym named
              ∙ sym (ap (λ (p : Entry). p.address) (at_default table place was was there))))
          | inr higher ↦ absurd (h.distinct place m.place was (omega arith) (inside table m.place m.entry m.there)
              (ap (λ (p : Entry). p.address) (at_default table place was was there) ∙ named ∙ sym same ∙ sym m.same
              ∙ sym (ap (λ (p : Entry). p.address) (at_default table m.place m.entry was m.there))))
        ]
      ]

  -- a number that the stored mark covers
  steps_low : (table : Marks) (address number place : ℕ) (was : Entry) → IsTable marks table → IsCovered first count table
      → place_of first count table address ≡ Some place
      → slice_get table place ≡ Some was → was.address ≡ address → was.mark < number → number ≤ was.stored
      → Steps table address number (set table place (record was { mark = number }))
  steps_low table address number place was h covered e there named above low =
      let within = inside table place was there in
      record {
        sound = IsTable-set marks table place (record was { mark = number }) h within
            (subst (λ (k : ℕ). IsFree marks table place k) (sym named) (free_found marks table address place h e));
        covered = All-set (λ entry. entry.mark ≤ entry.stored) table place (record was { mark = number }) low covered;
        marked = set_marked table address number place was (record was { mark = number }) there above refl refl;
        here = record { place = place; entry = record was { mark = number }; there = slice_get-set table place _ within; same = named; above = omega arith };
        below = set_below table address number place was h there named above;
        stored = λ old new stored stores.
            let nothing = rw (write_low first count table address number place was e within there low) at stores in
            subst (λ (k : Store). IsStored marks (set table place (record was { mark = number })) k.records) (sym nothing.1)
            (stored_rest marks table old.records place (record was { mark = number }) within (rw there refl) stored);
        either = λ old new stored stores.
            let nothing = rw (write_low first count table address number place was e within there low) at stores in
            absurd (cc (nothing.0));
      }

  -- a number above it
  steps_high : (table : Marks) (address number place : ℕ) (was : Entry) → IsTable marks table → IsCovered first count table → address < 0xFFFE → number < 2 ^ 32
      → place_of first count table address ≡ Some place → slice_get table place ≡ Some was → was.address ≡ address → was.mark < number → was.stored < number
      → Steps table address number (set table place (mark_ahead first count address number))
  steps_high table address number place was h covered short fits e there named above high =
      let within = inside table place was there in
      let entry : Entry = mark_ahead first count address number in
      let reads = mark_in-octets_of first count entry short (omega arith) in
      let writes = write_high first count table address number place was e within there high in
      record {
        sound = IsTable-set marks table place entry h within (free_found marks table address place h e);
        covered = All-set (λ entry. entry.mark ≤ entry.stored) table place entry (omega arith) covered;
        marked = set_marked table address number place was entry there above (sym named) refl;
        here = record { place = place; entry = entry; there = slice_get-set table place entry within; same = refl; above = omega arith };
        below = set_below table address number place was h there named above;
        stored = λ old new stored stores.
            let put = rw writes at stores in
            stored_set marks table old.records new.records place entry stored within put.stored reads;
        either = λ old new stored stores.
            let put = rw writes at stores in
            set_either marks table old.records new.records place entry stored within put.old_or_new reads;
      }

  new_address : (table : Marks) (address : ℕ) → place_of first count table address ≡ None → (a : Admitted) → Marked table a → a.address ≡ address → ⊥
  new_address table address e a m same =
      let within = inside table m.place m.entry m.there in
      apart marks table address (ap is_some e) m.place m.entry within
      (ap (λ (p : Entry). p.address) (at_default table m.place m.entry m.entry m.there) ∙ m.same ∙ same)

  -- a new address
  steps_new : (table : Marks) (address number : ℕ) → IsTable marks table → IsCovered first count table → address < 0xFFFE → number < 2 ^ 32
      → place_of first count table address ≡ None → length table < slots_of first count
      → Steps table address number (table ++ mark_ahead first count address number ∷ [])
  steps_new table address number h covered short fits e room =
      let entry : Entry = mark_ahead first count address number in
      let reads = mark_in-octets_of first count entry short (omega arith) in
      let free = free_new marks table address (length table) (ap is_some e) in
      record {
        sound = IsTable-push marks table entry h room free;
        covered = All-push (λ entry. entry.mark ≤ entry.stored) table entry covered (omega arith);
        marked = λ a m.
            let ne : m.place ≢ length table = let k = inside table m.place m.entry m.there in omega arith in
            record { place = m.place; entry = m.entry; there = slice_get-push_other table m.place entry ne ∙ m.there; same = m.same; above = m.above };
        here = record { place = length table; entry = entry; there = slice_get-push table entry; same = refl; above = omega arith };
        below = λ a m same. absurd (new_address table address e a m same);
        stored = λ old new stored stores.
            let put = rw e at stores in
            stored_push marks table old.records new.records entry stored room put.stored reads;
        either = λ old new stored stores.
            let put = rw e at stores in
            push_either marks table old.records new.records entry stored room put.old_or_new reads;
      }

  -- # Over all that happens

  -- The marks that the records give stand above all that was admitted, and nothing was admitted twice.
  pub record HoldsAdmitted (before : List Admitted) (was : Option Marks) (records : Records) : Type 0 where
    pub table : Marks
    pub sound : IsTable marks table
    pub covered : IsCovered first count table
    pub stored : IsStored marks table records
    pub marked : AllMarked table before
    pub once : EachOnce before
    pub live : IfSome was (λ t. t ≡ table)

  all_below : (table : Marks) (address number : ℕ) (before : List Admitted) → ((a : Admitted) → Marked table a → a.address ≡ address → a.number < number)
      → AllMarked table before
      → AllEarlier address number before
  all_below table address number [] f h = tt
  all_below table address number (a ∷ before) f h = (f a h.0, all_below table address number before f h.1)

  -- what is above all that were admitted of its address is new
  is_new : (a : Admitted) (before : List Admitted) → AllEarlier a.address a.number before → IsNew a before
  is_new a [] h = tt
  is_new a (b ∷ before) h = (
    λ same. let low = h.0 (ap (λ (x : Admitted). x.address) same) in let is = ap (λ (x : Admitted). x.number) same in
        absurd (omega arith),
    is_new a before h.1,
  )

  steps_at : (table : Marks) (address number place : ℕ) → IsTable marks table → IsCovered first count table → address < 0xFFFE → number < 2 ^ 32
      → has_room first count table address number ≡ true → place_of first count table address ≡ Some place
      → Steps table address number (kept_after first count table address number)
  steps_at table address number place h covered short fits room e =
      let here = found marks table address place no_entry e in
      let was : Entry = get_or table place no_entry in
      let there : slice_get table place ≡ Some was = slice_get-get_or table place no_entry here.0 in
      let answer : has_room first count table address number ≡ nat_lt was.mark number = rw e refl in
      let above = ltb-true was.mark number (sym answer ∙ room) in
      elim (cases_lt was.stored number) [
        | inl high ↦ subst (λ (t : Marks). Steps table address number t) (sym (kept_high first count table address number place was e here.0 there high))
            (steps_high table address number place was h covered short fits e there here.1 above high)
        | inr low ↦ subst (λ (t : Marks). Steps table address number t) (sym (kept_low first count table address number place was e here.0 there low))
            (steps_low table address number place was h covered e there here.1 above low)
      ]

  steps : (table : Marks) (address number : ℕ) → IsTable marks table → IsCovered first count table → address < 0xFFFE → number < 2 ^ 32
      → has_room first count table address number ≡ true → Steps table address number (kept_after first count table address number)
  steps table address number h covered short fits room = by_place (place_of first count table address) refl
    where
      by_place : (o : Option ℕ) → place_of first count table address ≡ o → Steps table address number (kept_after first count table address number)
      by_place (Some place) e = steps_at table address number place h covered short fits room e
      by_place None e =
          let after : kept_after first count table address number ≡ table ++ mark_ahead first count address number ∷ [] = rw e refl in
          subst (λ (t : Marks). Steps table address number t) (sym after)
          (steps_new table address number h covered short fits e (room_new first count table address number e room))

  pub admitted_begins : (table : Marks) (records : Records) → opened marks records ≡ Ok table → HoldsAdmitted [] (Some table) records
  admitted_begins table records e =
      let reading : IsReading marks table records = opened_reads marks records (Ok table) (sym e) in
      let stored = opened_kept marks records (Ok table) (λ _ octets entry h. mark_in-rests first count octets entry h) (sym e) in
      let same = reopened marks records table (λ _. refl) reading.sound stored in
      let rests : map (at_rest first count) table ≡ table = cc (e, same) in
      record {
        table = table;
        sound = reading.sound;
        covered = subst (λ (t : Marks). IsCovered first count t) rests (rest_covered table);
        stored = stored;
        marked = tt;
        once = tt;
        live = refl;
      }

  pub admitted_restarts : (before : List Admitted) (was : Option Marks) (table : Marks) (records : Records) → HoldsAdmitted before was records
      → opened marks records ≡ Ok table
      → HoldsAdmitted before (Some table) records
  admitted_restarts before was table records h e =
      let same = reopened marks records h.table (λ _. refl) h.sound h.stored in
      record {
        table = map (at_rest first count) h.table;
        sound = rest_sound h.table h.sound;
        covered = rest_covered h.table;
        stored = stored_map marks (at_rest first count) h.table records (λ _. refl) h.stored;
        marked = AllMarked-map h.table (map (at_rest first count) h.table) before (λ a m. rest_marked h.table a h.covered m) h.marked;
        once = h.once;
        live = cc (e, same);
      }

  -- What holds of the table itself, where there is one.
  record Live (before : List Admitted) (table : Marks) (records : Records) : Type 0 where
    sound : IsTable marks table
    covered : IsCovered first count table
    stored : IsStored marks table records
    marked : AllMarked table before

  live : (before : List Admitted) (table : Marks) (records : Records) → HoldsAdmitted before (Some table) records → Live before table records
  live before table records h =
      subst (λ (t : Marks). Live before t records) (sym h.live) (record { sound = h.sound; covered = h.covered; stored = h.stored; marked = h.marked })

  pub admitted_lost : (before : List Admitted) (table : Marks) (address number : ℕ) (old new : Store) → HoldsAdmitted before (Some table) old.records
      → address < 0xFFFE → number < 2 ^ 32
      → has_room first count table address number ≡ true → Stores old (keep_write first count table address number) false new
      → HoldsAdmitted before None new.records
  admitted_lost before table address number old new h short fits room stores =
      let l = live before table old.records h in
      let s = steps table address number l.sound l.covered short fits room in
      elim (s.either old new l.stored stores) [
        | inl same ↦ record { table = table; sound = l.sound; covered = l.covered; stored = same; marked = l.marked; once = h.once; live = tt }
        | inr written ↦ record {
          table = kept_after first count table address number;
          sound = s.sound;
          covered = s.covered;
          stored = written;
          marked = AllMarked-map table (kept_after first count table address number) before s.marked l.marked;
          once = h.once;
          live = tt;
        }
      ]

  -- where there is room for a number, it is above all that was admitted of its address
  pub room_is_fresh : (before : List Admitted) (table : Marks) (records : Records) (address number : ℕ) → HoldsAdmitted before (Some table) records
      → address < 0xFFFE → number < 2 ^ 32
      → has_room first count table address number ≡ true → AllEarlier address number before
  room_is_fresh before table records address number h short fits room =
      let l = live before table records h in
      let s = steps table address number l.sound l.covered short fits room in
      all_below table address number before s.below l.marked

  pub admitted_more : (before : List Admitted) (table : Marks) (address number : ℕ) (old new : Store) → HoldsAdmitted before (Some table) old.records
      → address < 0xFFFE → number < 2 ^ 32
      → has_room first count table address number ≡ true → Stores old (keep_write first count table address number) true new
      → HoldsAdmitted (record { address = address; number = number } ∷ before) (Some (kept_after first count table address number)) new.records
  admitted_more before table address number old new h short fits room stores =
      let l = live before table old.records h in
      let s = steps table address number l.sound l.covered short fits room in
      record {
        table = kept_after first count table address number;
        sound = s.sound;
        covered = s.covered;
        stored = s.stored old new l.stored stores;
        marked = (s.here, AllMarked-map table (kept_after first count table address number) before s.marked l.marked);
        once =
            (is_new (record { address = address; number = number }) before (room_is_fresh before table old.records address number h short fits room), h.once);
        live = refl;
      }

  -- it stays where other slots are put, and where the log is lost
  pub admitted_elsewhere : (before : List Admitted) (was : Option Marks) (old new : Records) → HoldsAdmitted before was old
      → ((place : ℕ) → place < slots_of first count → get new (slot_of marks place) ≡ get old (slot_of marks place)) → HoldsAdmitted before was new
  admitted_elsewhere before was old new h same = record {
    table = h.table;
    sound = h.sound;
    covered = h.covered;
    stored = record { short = h.stored.short; each = λ place within. ap (option_map (marks.read place)) (same place within) ∙ h.stored.each place within };
    marked = h.marked;
    once = h.once;
    live = h.live;
  }

  pub admitted_none : (before : List Admitted) (was : Option Marks) (records : Records) → HoldsAdmitted before was records → HoldsAdmitted before None records
  admitted_none before was records h =
      record { table = h.table; sound = h.sound; covered = h.covered; stored = h.stored; marked = h.marked; once = h.once; live = tt }

  pub admitted_sound : (before : List Admitted) (table : Marks) (records : Records) → HoldsAdmitted before (Some table) records → IsTable marks table
  admitted_sound before table records h = (live before table records h).sound
