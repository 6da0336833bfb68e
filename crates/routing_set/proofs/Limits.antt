-- What is stored stays what the number holds.
use Rattle.std.proofs.Common.{◌≡◌, ◌⊎◌, ℕ, ◌^◌, ◌<◌, ◌≤◌, Some, arith}
use Rattle.std.specs.FinMap.{get, insert}
use Rattle.byteorder.specs.Endian.{big_bytes}
use Rattle.plc_base.specs.Keeper.{Records, SameOutside}
use Rattle.store_tables.proofs.StoredLimits as limits
use Rattle.routing_set.specs.OwnNumber.{Numbering, AgreesWith, counting_of, limit_at, limit_in, limit_slot}

-- a limit that was stored is read back
pub limit_in-insert : (records : Records) (limit : ℕ) → 1 ≤ limit → limit < 2 ^ 16
    → limit_in (get (insert records limit_slot (big_bytes 2 limit)) limit_slot) ≡ Some limit
limit_in-insert records limit low h = limits.limit_in-insert limit_at records limit (omega arith) low

-- what is stored of the number stays where other slots are put
pub kept_elsewhere : (numbering : Numbering) (old new : Records) (first last : ℕ) → AgreesWith numbering old → SameOutside first last old new
    → (limit_slot < first) ⊎ (last < limit_slot) → AgreesWith numbering new
kept_elsewhere numbering = limits.kept_elsewhere limit_at (counting_of numbering)
