-- The counters that a node admitted, over failed puts and new starts.
use Rattle.std.specs.Prelude.{◌≡◌, ℕ, ◌^◌, ◌<◌, true, false, List, [], ◌∷◌, Option, Some, None, Ok}
use Rattle.std.specs.FinMap.{get}
use Rattle.plc_base.specs.Keeper.{Records, Store, Stores}
use Rattle.store_tables.specs.SlotTables.{slot_of, opened}
use Rattle.store_tables.specs.AdmittedNumbers.{Admitted}
use Rattle.frame_counters.specs.PeerMarks.{Table, peers, room_for, keep_write, kept_after}

-- What was admitted, the last first, since some opening; the marks, none where a put failed and they were not opened again;
-- and the records.
pub data Admits : List Admitted → Option Table → Records → Type 0 where
  begins : (table : Table) (records : Records) → opened peers records ≡ Ok table → Admits [] (Some table) records
  keeps : (before : List Admitted) (table : Table) (from counter : ℕ) (old new : Store)
      → Admits before (Some table) old.records
      → from < 0xFFFE → counter < 2 ^ 32 → room_for table from counter ≡ Ok (tt {0})
      → Stores old (keep_write table from counter) true new
      → Admits (record { address = from; number = counter } ∷ before) (Some (kept_after table from counter)) new.records
  fails : (before : List Admitted) (table : Table) (from counter : ℕ) (old new : Store)
      → Admits before (Some table) old.records
      → from < 0xFFFE → counter < 2 ^ 32 → room_for table from counter ≡ Ok (tt {0})
      → Stores old (keep_write table from counter) false new
      → Admits before None new.records
  restarts : (before : List Admitted) (was : Option Table) (table : Table) (records : Records)
      → Admits before was records
      → opened peers records ≡ Ok table → Admits before (Some table) records
  elsewhere : (before : List Admitted) (was : Option Table) (old new : Records) → Admits before was old
      → ((place : ℕ) → place < 64 → get new (slot_of peers place) ≡ get old (slot_of peers place))
      → Admits before was new
