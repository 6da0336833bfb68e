-- What may happen to a log: numbers given out, broadcasts admitted, failed puts and new starts.
use Rattle.std.specs.Prelude.{◌≡◌, ℕ, ◌^◌, ◌<◌, true, false, List, [], ◌∷◌, Option, Some, None, Ok}
use Rattle.std.specs.FinMap.{get}
use Rattle.plc_base.specs.Keeper.{Records, Store, Stores}
use Rattle.store_tables.specs.SlotTables.{slot_of}
use Rattle.store_tables.specs.AdmittedNumbers.{Admitted}
use Rattle.broadcast_log.specs.NextNumber.{limit_slot, is_spent, number_put}
use Rattle.broadcast_log.specs.OriginMarks.{marks, room_for, keep_write}
use Rattle.broadcast_log.specs.Log.{Log, opened, numbered_log, admitted_log}

-- none of the log's records changed
pub record LogSlotsStay (old new : Records) : Type 0 where
  pub limit : get new limit_slot ≡ get old limit_slot
  pub marks : (place : ℕ) → place < 32 → get new (slot_of marks place) ≡ get old (slot_of marks place)

-- The numbers that were given out and what was admitted, the last first, since some opening; the log, none where a put failed
-- and it was not opened again; and the records.
pub data Runs : List ℕ → List Admitted → Option Log → Records → Type 0 where
  begins : (log : Log) (records : Records) → opened records ≡ Ok log → log.numbering.limit < 2 ^ 32
      → Runs [] [] (Some log) records
  numbers : (given : List ℕ) (before : List Admitted) (log : Log) (old new : Store)
      → Runs given before (Some log) old.records
      → is_spent log.numbering ≡ false → Stores old (number_put log.numbering) true new
      → Runs (log.numbering.next ∷ given) before (Some (numbered_log log)) new.records
  loses_number : (given : List ℕ) (before : List Admitted) (log : Log) (old new : Store)
      → Runs given before (Some log) old.records
      → is_spent log.numbering ≡ false → Stores old (number_put log.numbering) false new
      → Runs given before None new.records
  admits : (given : List ℕ) (before : List Admitted) (log : Log) (origin number : ℕ) (old new : Store)
      → Runs given before (Some log) old.records
      → origin < 0xFFFE → number < 2 ^ 32 → room_for log.marks origin number ≡ Ok (tt {0})
      → Stores old (keep_write log.marks origin number) true new
      → Runs given (record { address = origin; number = number } ∷ before) (Some (admitted_log log origin number))
      new.records
  loses_mark : (given : List ℕ) (before : List Admitted) (log : Log) (origin number : ℕ) (old new : Store)
      → Runs given before (Some log) old.records
      → origin < 0xFFFE → number < 2 ^ 32 → room_for log.marks origin number ≡ Ok (tt {0})
      → Stores old (keep_write log.marks origin number) false new
      → Runs given before None new.records
  restarts : (given : List ℕ) (before : List Admitted) (was : Option Log) (log : Log) (records : Records)
      → Runs given before was records → opened records ≡ Ok log → Runs given before (Some log) records
  elsewhere : (given : List ℕ) (before : List Admitted) (was : Option Log) (old new : Records)
      → Runs given before was old → LogSlotsStay old new → Runs given before was new
