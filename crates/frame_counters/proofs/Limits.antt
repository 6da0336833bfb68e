-- What is stored of the counter stays what it holds: the lemmas on numberings at slot 2.
use Rattle.std.proofs.Common.{◌≡◌, ◌⊎◌, ℕ, ◌^◌, ◌<◌, Some, arith}
use Rattle.std.specs.FinMap.{get, insert}
use Rattle.byteorder.specs.Endian.{big_bytes}
use Rattle.plc_base.specs.Keeper.{Records, SameOutside}
use Rattle.store_tables.proofs.StoredLimits as limits
use Rattle.frame_counters.specs.SendCounter.{Counting, AgreesWith, limit_at, limit_in, limit_slot, stored_limit}

-- a limit that was stored is read back
pub limit_in-insert : (records : Records) (limit : ℕ) → limit < 2 ^ 32 → limit_in (get (insert records limit_slot (big_bytes 4 limit)) limit_slot) ≡ Some limit
limit_in-insert records limit fits = limits.limit_in-insert limit_at records limit fits (omega arith)

-- what a kept counter holds is the stored limit
pub stored_limit-kept : (counting : Counting) (records : Records) → AgreesWith counting records → stored_limit records ≡ counting.limit
stored_limit-kept = limits.stored_limit-kept limit_at

-- what is stored of the counter stays where other slots are put
pub kept_elsewhere : (counting : Counting) (old new : Records) (first last : ℕ) → AgreesWith counting old → SameOutside first last old new
    → (limit_slot < first) ⊎ (last < limit_slot) → AgreesWith counting new
kept_elsewhere = limits.kept_elsewhere limit_at
