use Rattle.std.proofs.Common.{Some, arith}
use Rattle.store_tables.specs.SlotTables.{entry_write}
use Rattle.store_tables.proofs.StoreLemmas.{stores_elsewhere}
use Rattle.store_tables.proofs.SlotOrders.{slot_fits}
use Rattle.store_tables.proofs.slot_table.store_entry.Goals as goal

pub returns-clause-store : goal.returns-clause-store
returns-clause-store g c = rw (← c.slot.ensures.value, ← c.record.ensures.octets) c.put.ensures

pub returns-clause-elsewhere : goal.returns-clause-elsewhere
returns-clause-elsewhere g c =
    let layout = g.E.SlotEntry.layout in
    let old = g.K.Keeper.store c.args.keeper.now in
    let new = g.K.Keeper.store c.put.new.self in
    stores_elsewhere old new (Some (entry_write layout c.args.place c.args.entry.now)) _ layout.first _ (returns-clause-store g c)
    (omega arith, omega (arith, c.requires.place))

pub returns-clause-fits : goal.returns-clause-fits
returns-clause-fits g c = let fits = slot_fits c.slot.result c.slot.ensures.valid in omega (arith, c.slot.ensures.value)
