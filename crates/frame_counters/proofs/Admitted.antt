-- A counter is admitted only above all that were admitted of its sender.
use Rattle.std.proofs.Common.{◌≡◌, ℕ, ◌^◌, ◌<◌, true, List, Option, Some, Ok}
use Rattle.plc_base.specs.Keeper.{Records}
use Rattle.store_tables.specs.Marks.{has_room}
use Rattle.store_tables.specs.AdmittedNumbers.{Admitted, AllEarlier}
use Rattle.store_tables.proofs.MarkEntries.{room_has}
use Rattle.store_tables.proofs.AdmittedNumbers as numbers
use Rattle.frame_counters.specs.declared.fault.PeerFault.TheVariants.{Replayed, PeersFull}
use Rattle.frame_counters.specs.PeerMarks.{Table, room_for}
use Rattle.frame_counters.specs.Admitted.{Admits, begins, keeps, fails, restarts, elsewhere}

abbrev Holds : List Admitted → Option Table → Records → Type 0
Holds before was records = numbers.HoldsAdmitted 0x0100 64 before was records

-- where there is no fault, there is room
room_by : (before : List Admitted) (table : Table) (records : Records) (from counter : ℕ) → Holds before (Some table) records
    → room_for table from counter ≡ Ok (tt {0})
    → has_room 0x0100 64 table from counter ≡ true
room_by before table records from counter h room =
    let sound = numbers.admitted_sound 0x0100 64 before table records h in
    room_has 0x0100 64 Replayed PeersFull table from counter sound.short room

holds : (before : List Admitted) (was : Option Table) (records : Records) → Admits before was records → Holds before was records
holds before was records (begins table r e) = numbers.admitted_begins 0x0100 64 table r e
holds before was records (keeps b table from counter old new earlier short fits room stores) =
    let h = holds b (Some table) old.records earlier in
    numbers.admitted_more 0x0100 64 b table from counter old new h short fits (room_by b table old.records from counter h room) stores
holds before was records (fails b table from counter old new earlier short fits room stores) =
    let h = holds b (Some table) old.records earlier in
    numbers.admitted_lost 0x0100 64 b table from counter old new h short fits (room_by b table old.records from counter h room) stores
holds before was records (restarts b w table r earlier e) = numbers.admitted_restarts 0x0100 64 b w table r (holds b w r earlier) e
holds before was records (elsewhere b w old new earlier same) = numbers.admitted_elsewhere 0x0100 64 b w old new (holds b w old earlier) same

-- where there is room for a counter, it is above all that was admitted of its sender
pub room_is_fresh : (before : List Admitted) (table : Table) (records : Records) (from counter : ℕ) → Admits before (Some table) records → from < 0xFFFE
    → counter < 2 ^ 32
    → room_for table from counter ≡ Ok (tt {0}) → AllEarlier from counter before
room_is_fresh before table records from counter history short fits room =
    let h = holds before (Some table) records history in
    numbers.room_is_fresh 0x0100 64 before table records from counter h short fits (room_by before table records from counter h room)
