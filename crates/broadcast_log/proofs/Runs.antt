-- Over any calls, failed puts and new starts.
use Rattle.std.proofs.Common.{◌≡◌, ℕ, ◌+◌, ◌^◌, ◌<◌, ◌≤◌, true, false, List, ◌∷◌, Option, Some, Result, Ok, Err, refl, inl, inr, subst, arith}
use Rattle.std.specs.Option.{option_map}
use Rattle.std.specs.FinMap.{get}
use Rattle.std.proofs.lemmas.Bool.{eqb-false}
use Rattle.plc_base.specs.Keeper.{Records, SameOutside}
use Rattle.store_tables.specs.SlotTables as slots
use Rattle.store_tables.specs.SlotTables.{slot_of}
use Rattle.plc_base.specs.declared.keeper.BadStore.{BadStore}
use Rattle.store_tables.specs.Numberings.{AllBelow}
use Rattle.store_tables.specs.Marks.{has_room}
use Rattle.store_tables.specs.AdmittedNumbers.{Admitted, AllEarlier}
use Rattle.store_tables.proofs.StoredLimits.{reserve_write-elsewhere}
use Rattle.store_tables.proofs.GivenNumbers.{HoldsGiven, given_begins, given_more, given_lost, given_restarts, given_elsewhere, given_none}
use Rattle.store_tables.proofs.MarkEntries.{room_has, keep_write-elsewhere}
use Rattle.store_tables.proofs.AdmittedNumbers.{HoldsAdmitted, admitted_begins, admitted_more, admitted_lost, admitted_restarts, admitted_elsewhere}
use Rattle.store_tables.proofs.AdmittedNumbers.{admitted_none, admitted_sound, room_is_fresh}
use Rattle.broadcast_log.specs.declared.fault.LogFault.TheVariants.{Old, OriginsFull}
use Rattle.broadcast_log.specs.NextNumber.{Numbering, numbering_in, numbered, is_spent, limit_at, limit_slot}
use Rattle.broadcast_log.specs.OriginMarks.{Marks, marks, room_for}
use Rattle.broadcast_log.specs.Log.{Log, log_of, opened}
use Rattle.broadcast_log.specs.Runs.{Runs, begins, numbers, loses_number, admits, loses_mark, restarts, elsewhere}
use Rattle.broadcast_log.specs.Laws.{EachIsAdmittedOnce, EachIsGivenOnce}
use Rattle.broadcast_log.specs.declared.log.TheConstants.{BROADCASTS_AHEAD}

-- Both parts of a log.
record Holds (given : List ℕ) (before : List Admitted) (was : Option Log) (records : Records) : Type 0 where
  numbering : HoldsGiven limit_at BROADCASTS_AHEAD given (option_map (λ l. l.numbering) was) records
  marks : HoldsAdmitted 0x0300 32 before (option_map (λ l. l.marks) was) records

-- a log that was opened has both parts opened
pub record IsOpened (log : Log) (records : Records) : Type 0 where
  pub numbering : numbering_in records ≡ Ok log.numbering
  pub marks : slots.opened marks records ≡ Ok log.marks

pub both_opened : (log : Log) (records : Records) → opened records ≡ Ok log → IsOpened log records
both_opened log records e = by_parts (numbering_in records) (slots.opened marks records) refl refl e
  where
    by_parts : (n : Result Numbering BadStore) (m : Result Marks BadStore) → numbering_in records ≡ n → slots.opened marks records ≡ m → log_of n m ≡ Ok log
        → IsOpened log records
    by_parts (Err bad) m en em is = absurd (cc (is))
    by_parts (Ok n) (Err bad) en em is = absurd (cc (is))
    by_parts (Ok n) (Ok m) en em is = record { numbering = cc (en, is); marks = cc (em, is) }

-- where there is no fault, there is room
room_by : (before : List Admitted) (table : Marks) (records : Records) (origin number : ℕ) → HoldsAdmitted 0x0300 32 before (Some table) records
    → room_for table origin number ≡ Ok (tt {0})
    → has_room 0x0300 32 table origin number ≡ true
room_by before table records origin number h room =
    let sound = admitted_sound 0x0300 32 before table records h in
    room_has 0x0300 32 Old OriginsFull table origin number sound.short room

-- a number that is left is below the last one
left_below : (given : List ℕ) (n : Numbering) (records : Records) → HoldsGiven limit_at BROADCASTS_AHEAD given (Some n) records → is_spent n ≡ false
    → n.next + 1 ≤ 4294967295
left_below given n records h left = let other = eqb-false n.next 4294967295 left in omega (arith, h.reads.fits, h.live.0, h.live.1)

-- one number is a run of one
given_one : (given : List ℕ) (n : Numbering) (records : Records) → HoldsGiven limit_at BROADCASTS_AHEAD ((n.next + 0) ∷ given) (Some (numbered n)) records
    → HoldsGiven limit_at BROADCASTS_AHEAD (n.next ∷ given) (Some (numbered n)) records
given_one given n records h =
    let same : n.next + 0 ≡ n.next = omega arith in
    subst (λ (k : ℕ). HoldsGiven limit_at BROADCASTS_AHEAD (k ∷ given) (Some (numbered n)) records) same h

-- a put at one part's slots leaves the other part's
marks_stay : (old new : Records) → SameOutside limit_slot limit_slot old new → (place : ℕ) → place < 32
    → get new (slot_of marks place) ≡ get old (slot_of marks place)
marks_stay old new same place within = same (slot_of marks place) (inr (omega arith))

limit_stays : (old new : Records) → SameOutside 0x0300 0x031F old new → get new limit_slot ≡ get old limit_slot
limit_stays old new same = same limit_slot (inl (omega arith))

holds : (given : List ℕ) (before : List Admitted) (was : Option Log) (records : Records) → Runs given before was records → Holds given before was records
holds given before was records (begins log r e fits) =
    let o = both_opened log r e in
    record {
      numbering = given_begins limit_at BROADCASTS_AHEAD log.numbering r o.numbering (record { fits = fits; low = omega arith });
      marks = admitted_begins 0x0300 32 log.marks r o.marks;
    }
holds given before was records (numbers g b log old new earlier left stores) =
    let h = holds g b (Some log) old.records earlier in
    record {
      numbering = given_one g log.numbering new.records
          (given_more limit_at BROADCASTS_AHEAD g log.numbering 1 old new h.numbering (omega arith) (left_below g log.numbering old.records h.numbering left)
          stores);
      marks = admitted_elsewhere 0x0300 32 b (Some log.marks) old.records new.records h.marks
          (marks_stay old.records new.records (reserve_write-elsewhere limit_at BROADCASTS_AHEAD log.numbering 1 old new true stores));
    }
holds given before was records (loses_number g b log old new earlier left stores) =
    let h = holds g b (Some log) old.records earlier in
    record {
      numbering = given_lost limit_at BROADCASTS_AHEAD g log.numbering 1 old new h.numbering stores;
      marks = admitted_none 0x0300 32 b (Some log.marks) new.records
          (admitted_elsewhere 0x0300 32 b (Some log.marks) old.records new.records h.marks
          (marks_stay old.records new.records (reserve_write-elsewhere limit_at BROADCASTS_AHEAD log.numbering 1 old new false stores)));
    }
holds given before was records (admits g b log origin number old new earlier short fits room stores) =
    let h = holds g b (Some log) old.records earlier in
    let sound : slots.IsTable marks log.marks = admitted_sound 0x0300 32 b log.marks old.records h.marks in
    let free = room_by b log.marks old.records origin number h.marks room in
    record {
      numbering = given_elsewhere limit_at BROADCASTS_AHEAD g (Some log.numbering) old.records new.records h.numbering
          (limit_stays old.records new.records (keep_write-elsewhere 0x0300 32 log.marks origin number old new true sound free stores));
      marks = admitted_more 0x0300 32 b log.marks origin number old new h.marks short fits free stores;
    }
holds given before was records (loses_mark g b log origin number old new earlier short fits room stores) =
    let h = holds g b (Some log) old.records earlier in
    let sound : slots.IsTable marks log.marks = admitted_sound 0x0300 32 b log.marks old.records h.marks in
    let free = room_by b log.marks old.records origin number h.marks room in
    record {
      numbering = given_none limit_at BROADCASTS_AHEAD g (Some log.numbering) new.records
          (given_elsewhere limit_at BROADCASTS_AHEAD g (Some log.numbering) old.records new.records h.numbering
          (limit_stays old.records new.records (keep_write-elsewhere 0x0300 32 log.marks origin number old new false sound free stores)));
      marks = admitted_lost 0x0300 32 b log.marks origin number old new h.marks short fits free stores;
    }
holds given before was records (restarts g b w log r earlier e) =
    let h = holds g b w r earlier in
    let o = both_opened log r e in
    record {
      numbering = given_restarts limit_at BROADCASTS_AHEAD g (option_map (λ l. l.numbering) w) log.numbering r h.numbering o.numbering;
      marks = admitted_restarts 0x0300 32 b (option_map (λ l. l.marks) w) log.marks r h.marks o.marks;
    }
holds given before was records (elsewhere g b w old new earlier stay) =
    let h = holds g b w old earlier in
    record {
      numbering = given_elsewhere limit_at BROADCASTS_AHEAD g (option_map (λ l. l.numbering) w) old new h.numbering stay.limit;
      marks = admitted_elsewhere 0x0300 32 b (option_map (λ l. l.marks) w) old new h.marks stay.marks;
    }

-- # What the calls and the laws say

pub next_is_fresh : (given : List ℕ) (before : List Admitted) (log : Log) (records : Records) → Runs given before (Some log) records
    → AllBelow log.numbering.next given
next_is_fresh given before log records run = (holds given before (Some log) records run).numbering.live.2

pub admission_is_fresh : (given : List ℕ) (before : List Admitted) (log : Log) (records : Records) (origin number : ℕ) → Runs given before (Some log) records
    → origin < 0xFFFE → number < 2 ^ 32 → room_for log.marks origin number ≡ Ok (tt {0}) → AllEarlier origin number before
admission_is_fresh given before log records origin number run short fits room =
    let h = holds given before (Some log) records run in
    room_is_fresh 0x0300 32 before log.marks records origin number h.marks short fits (room_by before log.marks records origin number h.marks room)

pub each_admitted_once : EachIsAdmittedOnce
each_admitted_once given before was records run = (holds given before was records run).marks.once

pub each_given_once : EachIsGivenOnce
each_given_once given before was records run = (holds given before was records run).numbering.each
