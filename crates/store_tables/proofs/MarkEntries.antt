-- What the records of marks give, and what keeping a number does to a table.
use Rattle.std.proofs.Common.{◌≡◌, ℕ, ◌+◌, ◌^◌, ◌<◌, ◌≤◌, Bool, true, false, cond, List, [], ◌∷◌, ◌++◌, get_or, Option, Some, None, Result, length, set, refl}
use Rattle.std.proofs.Common.{sym, ap, subst, ◌∙◌, arith}
use Rattle.std.specs.Prelude.{nat_lt, nat_le, ◌==◌, if◌then◌else◌, slice_get, IfSome, Ok, Err, OnOk, OnErr}
use Rattle.std.specs.Option.{option_map, option_map_or, option_and_then}
use Rattle.std.proofs.lemmas.Bool.{ltb-true}
use Rattle.std.proofs.lemmas.Bool.Decides.{nat_tests}
use Rattle.std.proofs.lemmas.Option.{slice_get-get_or}
use Rattle.std.proofs.lemmas.List.Elements.{All-push, All-set}
use Rattle.std.specs.FinMap.{get}
use Rattle.byteorder.specs.Endian.{big_number, big_bytes}
use Rattle.byteorder.specs.Numbers.{big_number-reads_back}
use Rattle.plc_base.specs.Keeper.{Records, Store, Write, Stores, SameOutside}
use Rattle.store_tables.specs.SlotTables.{IsTable, IsReading, entry_write, last_of}
use Rattle.store_tables.specs.declared.marks.Mark.{Mark}
use Rattle.store_tables.specs.Marks.{Table, layout, slots_of, mark_in, mark_with, mark_in-rests, octets_of, at_rest, IsCovered, place_of, mark_at, mark_of}
use Rattle.store_tables.specs.Marks.{mark_ahead, advanced, has_room, room_for, keep_write, kept_after}
use Rattle.store_tables.proofs.SlotTables.{found}
use Rattle.store_tables.proofs.StoreLemmas.{stores_elsewhere}

low : (a b : ℕ) → a ≤ b → nat_le a b ≡ true
low a b h = grind (arith, nat_tests)

high : (a b : ℕ) → b < a → nat_le a b ≡ false
high a b h = grind (arith, nat_tests)

module _ (first count : ℕ) where
  abbrev Entry : Type 0
  Entry = Mark first count

  abbrev Marks : Type 0
  Marks = Table first count

  -- a record that is written is read back
  pub mark_in-octets_of : (entry : Entry) → entry.address < 0xFFFE → entry.stored < 2 ^ 32
      → mark_in first count (octets_of first count entry) ≡ Some (at_rest first count entry)
  mark_in-octets_of entry short fits =
      let start : big_number 2 (octets_of first count entry) ≡ entry.address = big_number-reads_back 2 entry.address (big_bytes 4 entry.stored) (omega arith) in
      let last : big_number 4 (big_bytes 4 entry.stored) ≡ entry.stored = big_number-reads_back 4 entry.stored [] (omega arith) in
      let valid : nat_lt entry.address 0xFFFE ≡ true = grind (arith, nat_tests) in
      ap (λ a. mark_with first count a (big_number 4 (big_bytes 4 entry.stored))) start ∙ ap (mark_with first count entry.address) last
      ∙ ap (λ (b : Bool). cond b (Some (at_rest first count entry)) None) valid

  -- so no mark that the records give is above the stored one
  pub opened_covered : (table : Marks) (records : Records) → IsReading (layout first count) table records → IsCovered first count table
  opened_covered table records reading place d within =
      let there = slice_get-get_or table place d within in
      by_record (get records (first + place)) (get_or table place d) (reading.each place within ∙ there)
    where
      by_record : (o : Option (List ℕ)) (entry : Entry) → option_and_then (mark_in first count) o ≡ Some entry → entry.mark ≤ entry.stored
      by_record None entry e = absurd (cc (e))
      by_record (Some octets) entry e = let same = ap (λ (m : Entry). m.mark) (mark_in-rests first count octets entry e) in omega (arith, same)

  -- so what was read again has none, also where it ended at a bad record
  pub reload_covered : {E : Type 0} (r : Result (Unit {0}) E) (new : Marks) (records : Records) → OnOk r (IsReading (layout first count) new records)
      → OnErr r (new ≡ []) → IsCovered first count new
  reload_covered (Ok done) new records ok err = opened_covered new records ok
  reload_covered (Err fault) new records ok err = subst (λ (t : Marks). IsCovered first count t) (sym err) (λ k d within. absurd (omega arith))

  -- # What keeping a number does

  -- an address that is looked up has the entry at its place
  at_place : (table : Marks) (place : ℕ) (entry : Entry) → place < length table → slice_get table place ≡ Some entry → mark_at first count table place ≡ entry
  at_place table place entry within got =
      let there = slice_get-get_or table place (record { address = 0; mark = 0; stored = 0 }) within in
      cc

  -- so it has the mark of that entry
  pub mark_found : (table : Marks) (address place : ℕ) (entry : Entry) → place_of first count table address ≡ Some place → place < length table
      → slice_get table place ≡ Some entry
      → mark_of first count table address ≡ Some entry.mark
  mark_found table address place entry at within got =
      ap (option_map (λ (p : ℕ). (mark_at first count table p).mark)) at ∙ ap (λ (m : Entry). Some m.mark) (at_place table place entry within got)

  -- a number that the stored mark covers
  pub kept_low : (table : Marks) (address number place : ℕ) (entry : Entry) → place_of first count table address ≡ Some place → place < length table
      → slice_get table place ≡ Some entry
      → number ≤ entry.stored → kept_after first count table address number ≡ set table place (record entry { mark = number })
  kept_low table address number place entry e within got h = rw (e, at_place table place entry within got, low number entry.stored h) refl

  pub write_low : (table : Marks) (address number place : ℕ) (entry : Entry) → place_of first count table address ≡ Some place → place < length table
      → slice_get table place ≡ Some entry
      → number ≤ entry.stored → keep_write first count table address number ≡ None
  write_low table address number place entry e within got h = rw (e, at_place table place entry within got, low number entry.stored h) refl

  -- one above it
  pub kept_high : (table : Marks) (address number place : ℕ) (entry : Entry) → place_of first count table address ≡ Some place → place < length table
      → slice_get table place ≡ Some entry
      → entry.stored < number → kept_after first count table address number ≡ set table place (mark_ahead first count address number)
  kept_high table address number place entry e within got h = rw (e, at_place table place entry within got, high number entry.stored h) refl

  pub write_high : (table : Marks) (address number place : ℕ) (entry : Entry) → place_of first count table address ≡ Some place → place < length table
      → slice_get table place ≡ Some entry
      → entry.stored < number → keep_write first count table address number
      ≡ Some (entry_write (layout first count) place (mark_ahead first count address number))
  write_high table address number place entry e within got h = rw (e, at_place table place entry within got, high number entry.stored h) refl

  -- a new address
  pub kept_new : (table : Marks) (address number : ℕ) → place_of first count table address ≡ None
      → kept_after first count table address number ≡ table ++ mark_ahead first count address number ∷ []
  kept_new table address number e = rw e refl

  pub write_new : (table : Marks) (address number : ℕ) → place_of first count table address ≡ None
      → keep_write first count table address number ≡ Some (entry_write (layout first count) (length table) (mark_ahead first count address number))
  write_new table address number e = rw e refl

  -- an entry that is stored anew keeps all marks covered
  pub ahead_covered : (address number : ℕ) → number < 2 ^ 32 → (mark_ahead first count address number).mark ≤ (mark_ahead first count address number).stored
  ahead_covered address number fits = omega arith

  pub set_covered : {T E : Type 0} (r : Result T E) (old new : Marks) (place : ℕ) (entry : Entry) → IsCovered first count old → entry.mark ≤ entry.stored
      → OnOk r (new ≡ set old place entry) → OnErr r (new ≡ old) → IsCovered first count new
  set_covered (Ok done) old new place entry covered h ok err =
      subst (λ (t : Marks). IsCovered first count t) (sym ok) (All-set (λ entry. entry.mark ≤ entry.stored) old place entry h covered)
  set_covered (Err fault) old new place entry covered h ok err = subst (λ (t : Marks). IsCovered first count t) (sym err) covered

  pub push_covered : {T E : Type 0} (r : Result T E) (old new : Marks) (entry : Entry) → IsCovered first count old → entry.mark ≤ entry.stored
      → OnOk r (new ≡ old ++ entry ∷ []) → OnErr r (new ≡ old) → IsCovered first count new
  push_covered (Ok done) old new entry covered h ok err =
      subst (λ (t : Marks). IsCovered first count t) (sym ok) (All-push (λ entry. entry.mark ≤ entry.stored) old entry covered h)
  push_covered (Err fault) old new entry covered h ok err = subst (λ (t : Marks). IsCovered first count t) (sym err) covered

  -- and so does a number that is kept, whatever became of its put
  pub kept_covered : {T E : Type 0} (r : Result T E) (old new : Marks) (address number : ℕ) → IsCovered first count old → number < 2 ^ 32
      → OnOk r (new ≡ kept_after first count old address number) → OnErr r (new ≡ old) → IsCovered first count new
  kept_covered (Ok done) old new address number covered fits ok err =
      subst (λ (t : Marks). IsCovered first count t) (sym ok) (by_place (place_of first count old address))
    where
      by_stored : (entry : Entry) (b : Bool) → nat_le number entry.stored ≡ b
          → (cond b (record entry { mark = number }) (mark_ahead first count address number)).mark
          ≤ (cond b (record entry { mark = number }) (mark_ahead first count address number)).stored
      by_stored entry true e = grind (arith, nat_tests)
      by_stored entry false e = ahead_covered address number fits

      by_place : (o : Option ℕ)
          → IsCovered first count (option_map_or (λ place. set old place (advanced first count (mark_at first count old place) address number)) o
          (old ++ mark_ahead first count address number ∷ []))
      by_place None = All-push (λ entry. entry.mark ≤ entry.stored) old (mark_ahead first count address number) covered (ahead_covered address number fits)
      by_place (Some place) =
          let entry : Entry = mark_at first count old place in
          All-set (λ entry. entry.mark ≤ entry.stored) old place (advanced first count entry address number) (by_stored entry (nat_le number entry.stored) refl)
          covered
  kept_covered (Err fault) old new address number covered fits ok err = subst (λ (t : Marks). IsCovered first count t) (sym err) covered

  -- # Room

  pub room_low : {F : Type 0} (fault full : F) (table : Marks) (address number place : ℕ) (entry : Entry) → place_of first count table address ≡ Some place
      → place < length table → slice_get table place ≡ Some entry
      → number ≤ entry.mark → room_for first count fault full table address number ≡ Err fault
  room_low fault full table address number place entry e within got h = rw (e, at_place table place entry within got, low number entry.mark h) refl

  pub room_above : {F : Type 0} (fault full : F) (table : Marks) (address number place : ℕ) (entry : Entry) → place_of first count table address ≡ Some place
      → place < length table → slice_get table place ≡ Some entry
      → entry.mark < number → room_for first count fault full table address number ≡ Ok (tt {0})
  room_above fault full table address number place entry e within got h = rw (e, at_place table place entry within got, high number entry.mark h) refl

  pub room_free : {F : Type 0} (fault full : F) (table : Marks) (address number : ℕ) → place_of first count table address ≡ None
      → (length table == slots_of first count) ≡ false
      → room_for first count fault full table address number ≡ Ok (tt {0})
  room_free fault full table address number e h = rw (e, h) refl

  -- where there is room for a new address, not all slots are taken
  pub room_new : (table : Marks) (address number : ℕ) → place_of first count table address ≡ None → has_room first count table address number ≡ true
      → length table < slots_of first count
  room_new table address number new room =
      let is : has_room first count table address number ≡ nat_lt (length table) (slots_of first count) = rw new refl in
      ltb-true (length table) (slots_of first count) (sym is ∙ room)

  -- where there is no fault, there is room
  pub room_has : {F : Type 0} (fault full : F) (table : Marks) (address number : ℕ) → length table ≤ slots_of first count
      → room_for first count fault full table address number ≡ Ok (tt {0})
      → has_room first count table address number ≡ true
  room_has fault full table address number short room = by_place (place_of first count table address) room
    where
      by_mark : (mark : ℕ) (b : Bool) → nat_le number mark ≡ b → cond b (Err fault) (Ok (tt {0})) ≡ Ok (tt {0}) → nat_lt mark number ≡ true
      by_mark mark true e is = absurd (cc (is))
      by_mark mark false e is = grind (arith, nat_tests)

      by_length : (n slots : ℕ) → n ≤ slots → (b : Bool) → (n == slots) ≡ b → cond b (Err full) (Ok (tt {0})) ≡ Ok (tt {0}) → nat_lt n slots ≡ true
      by_length n slots h true e is = absurd (cc (is))
      by_length n slots h false e is = grind (arith, nat_tests)

      by_place : (o : Option ℕ)
          → option_map_or (λ place. if nat_le number (mark_at first count table place).mark then Err fault else Ok (tt {0})) o
          (if length table == slots_of first count then Err full else Ok (tt {0})) ≡ Ok (tt {0})
          → option_map_or (λ place. nat_lt (mark_at first count table place).mark number) o (nat_lt (length table) (slots_of first count)) ≡ true
      by_place (Some place) is = by_mark (mark_at first count table place).mark _ refl is
      by_place None is = by_length (length table) (slots_of first count) short _ refl is

  -- # Where the put of a mark goes

  abbrev pub IsWithin : Option Write → Type 0
  IsWithin write = IfSome write (λ w. (first ≤ w.slot) × (w.slot ≤ last_of (layout first count)))

  -- to one of the slots of the marks
  pub keep_write-within : (table : Marks) (address number : ℕ) → IsTable (layout first count) table → has_room first count table address number ≡ true
      → IsWithin (keep_write first count table address number)
  keep_write-within table address number sound room = by_place (place_of first count table address) refl
    where
      by_stored : (place : ℕ) (b : Bool) → place < length table
          → IsWithin (cond b None (Some (entry_write (layout first count) place (mark_ahead first count address number))))
      by_stored place true within = tt
      by_stored place false within = let short = sound.short in (omega arith, omega arith)

      by_place : (o : Option ℕ) → place_of first count table address ≡ o
          → IsWithin (option_map_or (λ place. cond (nat_le number (mark_at first count table place).stored) None
          (Some (entry_write (layout first count) place (mark_ahead first count address number)))) o
          (Some (entry_write (layout first count) (length table) (mark_ahead first count address number))))
      by_place (Some place) e =
          let there = found (layout first count) table address place (record { address = 0; mark = 0; stored = 0 }) e in
          by_stored place (nat_le number (mark_at first count table place).stored) there.0
      by_place None e = let more = room_new table address number e room in (omega arith, omega arith)

  -- so it leaves all other slots
  pub keep_write-elsewhere : (table : Marks) (address number : ℕ) (old new : Store) (done : Bool) → IsTable (layout first count) table
      → has_room first count table address number ≡ true
      → Stores old (keep_write first count table address number) done new → SameOutside first (last_of (layout first count)) old.records new.records
  keep_write-elsewhere table address number old new done sound room stores =
      stores_elsewhere old new (keep_write first count table address number) done first (last_of (layout first count)) stores
      (keep_write-within table address number sound room)
