-- No counter is given out twice.
use Rattle.std.proofs.Common.{ℕ, List, Option, Some, arith}
use Rattle.plc_base.specs.Keeper.{Records}
use Rattle.store_tables.specs.Numberings.{AllBelow}
use Rattle.store_tables.proofs.GivenNumbers.{HoldsGiven, given_begins, given_more, given_lost, given_restarts, given_elsewhere}
use Rattle.frame_counters.specs.SendCounter.{Counting, limit_at}
use Rattle.frame_counters.specs.Given.{Gives, begins, reserves, fails, restarts, elsewhere}
use Rattle.frame_counters.specs.declared.send_counter.TheConstants.{COUNTERS_AHEAD}

holds : (given : List ℕ) (was : Option Counting) (records : Records) → Gives given was records → HoldsGiven limit_at COUNTERS_AHEAD given was records
holds given was records (begins counting r e fits) = given_begins limit_at COUNTERS_AHEAD counting r e (record { fits = fits; low = omega arith })
holds given was records (reserves g counting count old new before few left stores) =
    given_more limit_at COUNTERS_AHEAD g counting count old new (holds g (Some counting) old.records before) few left stores
holds given was records (fails g counting count old new before few left stores) =
    given_lost limit_at COUNTERS_AHEAD g counting count old new (holds g (Some counting) old.records before) stores
holds given was records (restarts g w counting r before e) = given_restarts limit_at COUNTERS_AHEAD g w counting r (holds g w r before) e
holds given was records (elsewhere g w old new before same) = given_elsewhere limit_at COUNTERS_AHEAD g w old new (holds g w old before) same

-- the next counter is above all that was given out
pub next_is_fresh : (given : List ℕ) (counting : Counting) (records : Records) → Gives given (Some counting) records → AllBelow counting.next given
next_is_fresh given counting records h = (holds given (Some counting) records h).live.2
