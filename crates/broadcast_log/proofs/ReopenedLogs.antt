-- A log that is opened over records which give a log is what they give.
use Rattle.std.proofs.Common.{◌≡◌, ℕ, ◌<◌, Option, Some, None, Ok, refl, sym, subst, arith}
use Rattle.std.specs.FinMap.{get}
use Rattle.plc_base.specs.Keeper.{Records}
use Rattle.store_tables.specs.Marks.{mark_in-rests}
use Rattle.store_tables.specs.Numberings.{counting_at, counting_from}
use Rattle.store_tables.proofs.OpenedTables.{opened_kept, opened_reads, reopened}
use Rattle.broadcast_log.specs.NextNumber.{LimitAgrees, Numbering, limit_at, limit_in, limit_slot}
use Rattle.broadcast_log.specs.OriginMarks.{marks}
use Rattle.broadcast_log.specs.Log.{Log, log_at_rest, opened}
use Rattle.broadcast_log.specs.Laws.{IsLogIn}
use Rattle.broadcast_log.proofs.Runs.{both_opened}

from_limit : (o : Option ℕ) (limit : ℕ) (n : Numbering) → o ≡ Some limit → counting_from limit_at o ≡ Ok n → counting_at limit ≡ n
from_limit (Some l) limit n e is = cc
from_limit None limit n e is = absurd (cc)

pub opened_in : (was log : Log) (records : Records) → IsLogIn was records → opened records ≡ Ok log → IsLogIn log records
opened_in was log records h e =
    let o = both_opened log records e in
    let n : counting_at was.numbering.limit
    ≡ log.numbering = from_limit (limit_in (get records limit_slot)) was.numbering.limit log.numbering h.kept.numbering.limit o.numbering in
    let limit = h.kept.numbering.limit in
    record {
      kept = record {
        numbering = subst (λ (c : Numbering). LimitAgrees c records) n (record { limit = limit; below = omega arith });
        marks = opened_kept marks records (Ok log.marks) (λ _ octets entry r. mark_in-rests 0x0300 32 octets entry r) (sym o.marks);
      };
      fits = subst (λ (c : Numbering). c.limit < 4294967296) n h.fits;
      sound = (opened_reads marks records (Ok log.marks) (sym o.marks)).sound;
    }

-- and it is opened
pub reopens : (log : Log) (records : Records) → IsLogIn log records → opened records ≡ Ok (log_at_rest log)
reopens log records h = rw (h.kept.numbering.limit, reopened marks records log.marks (λ _. refl) h.sound h.kept.marks) refl
