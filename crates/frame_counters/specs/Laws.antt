-- What holds of counters and marks, whatever becomes of their puts.
use Rattle.std.specs.Prelude.{◌≡◌, ◌≢◌, ℕ, ◌+◌, ◌<◌, ◌≤◌, ◌^◌, Ok, Err, None}
use Rattle.plc_base.specs.Keeper.{Records}
use Rattle.store_tables.specs.Writes.{puts_of}
use Rattle.store_tables.specs.Numberings as numbers
use Rattle.store_tables.specs.Marks as tables
use Rattle.store_tables.specs.LeadingPuts.{PutsLead}
use Rattle.frame_counters.specs.declared.fault.PeerFault.TheVariants.{Store}
use Rattle.frame_counters.specs.SendCounter as counters
use Rattle.frame_counters.specs.PeerMarks as marks
use Rattle.frame_counters.specs.declared.send_counter.TheConstants.{COUNTERS_AHEAD}

-- A reservation of no counter puts nothing and leaves the counter as it was.
pub record IsNoReservation (counting : counters.Counting) : Type 0 where
  pub write : counters.reserve_write counting 0 ≡ None
  pub same : counters.reserved counting 0 ≡ counting

abbrev pub NoReservationChangesNothing : Type 0
NoReservationChangesNothing = (counting : counters.Counting) → counting.next ≤ counting.limit → IsNoReservation counting

-- A counter is what the records give, and its limit has a record.
abbrev pub IsCounterIn : counters.Counting → Records → Type 0
IsCounterIn counting records = numbers.IsCountingIn counters.limit_at counting records

-- Whatever becomes of the put of a reservation, some counter is what the records give.
abbrev pub ReservationsLead : Type 0
ReservationsLead =
    (counting : counters.Counting) (count : ℕ) → count ≤ COUNTERS_AHEAD → counting.next + count ≤ 4294967295
    → PutsLead IsCounterIn counting (puts_of (counters.reserve_write counting count)) (counters.reserved counting count)

-- Whether a counter would be admitted is asked without a put: the answer is never a failed one.
abbrev pub RoomIsNoPut : Type 0
RoomIsNoPut = (table : marks.Table) (from counter : ℕ) → marks.room_for table from counter ≢ Err Store

-- Marks are what the records give, each sender at one place.
abbrev pub AreMarksIn : marks.Table → Records → Type 0
AreMarksIn table records = tables.AreMarksIn 0x0100 64 table records

-- Whatever becomes of the put for an admitted counter, some marks are what the records give.
abbrev pub AdmissionsLead : Type 0
AdmissionsLead =
    (table : marks.Table) (from counter : ℕ) → marks.room_for table from counter ≡ Ok tt
    → from < 0xFFFE → counter < 2 ^ 32
    → PutsLead AreMarksIn table (puts_of (marks.keep_write table from counter)) (marks.kept_after table from counter)
