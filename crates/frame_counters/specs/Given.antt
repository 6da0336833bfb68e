-- The counters that a node gave out, over reservations, failed puts and new starts.
use Rattle.std.specs.Prelude.{◌≡◌, ℕ, ◌+◌, ◌^◌, ◌<◌, ◌≤◌, true, false, List, [], ◌++◌, Option, Some, None, Ok}
use Rattle.std.specs.FinMap.{get}
use Rattle.plc_base.specs.Keeper.{Records, Store, Stores}
use Rattle.store_tables.specs.Numberings.{run_of}
use Rattle.frame_counters.specs.SendCounter.{Counting, opened, limit_slot, reserve_write, reserved}
use Rattle.frame_counters.specs.declared.send_counter.TheConstants.{COUNTERS_AHEAD}

-- What was given out, the last first, since some opening; the counter, none where a put failed and it was not opened again;
-- and the records.
pub data Gives : List ℕ → Option Counting → Records → Type 0 where
  begins : (counting : Counting) (records : Records) → opened records ≡ Ok counting → counting.limit < 2 ^ 32
      → Gives [] (Some counting) records
  reserves : (given : List ℕ) (counting : Counting) (count : ℕ) (old new : Store)
      → Gives given (Some counting) old.records
      → count ≤ COUNTERS_AHEAD → counting.next + count ≤ 4294967295 → Stores old (reserve_write counting count) true new
      → Gives (run_of counting.next count ++ given) (Some (reserved counting count)) new.records
  fails : (given : List ℕ) (counting : Counting) (count : ℕ) (old new : Store) → Gives given (Some counting) old.records
      → count ≤ COUNTERS_AHEAD → counting.next + count ≤ 4294967295 → Stores old (reserve_write counting count) false new
      → Gives given None new.records
  restarts : (given : List ℕ) (was : Option Counting) (counting : Counting) (records : Records)
      → Gives given was records
      → opened records ≡ Ok counting → Gives given (Some counting) records
  elsewhere : (given : List ℕ) (was : Option Counting) (old new : Records) → Gives given was old
      → get new limit_slot ≡ get old limit_slot → Gives given was new
