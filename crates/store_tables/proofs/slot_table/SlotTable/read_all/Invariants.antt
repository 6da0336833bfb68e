use Rattle.std.proofs.Common.{◌≡◌, ◌-◌, length}
use Rattle.store_tables.specs.SlotTables.{opened, opened_from}
use Rattle.store_tables.proofs.slot_table.SlotTable.read_all.Given as goal

abbrev pub invariant-loop-place : goal.invariant-loop-place
invariant-loop-place g l =
    let layout = g.E.SlotEntry.layout in
    let records = (g.K.Keeper.store l.keeper).records in
    record {
      rest : opened_from layout (layout.slots - l.place) l.place records l.self ≡ opened layout records;
      count : length l.self ≡ l.place;
    }
