use Rattle.std.proofs.Common.{◌≡◌, ◌+◌, ◌-◌}
use Rattle.store_tables.specs.SlotTables.{is_empty_from}
use Rattle.store_tables.proofs.slot_table.SlotTable.is_empty_behind.Given as goal

abbrev pub invariant-loop-later : goal.invariant-loop-later
invariant-loop-later g l =
    let layout = g.E.SlotEntry.layout in
    let records = (g.K.Keeper.store l.keeper).records in
    is_empty_from layout (layout.slots - l.later) l.later records ≡ is_empty_from layout (layout.slots - (l.place + 1)) (l.place + 1) records
