use Rattle.std.proofs.Common.{arith, Some}
use Rattle.store_tables.specs.NumberSlots.{number_write}
use Rattle.store_tables.proofs.StoreLemmas.{stores_elsewhere}
use Rattle.store_tables.proofs.NumberSlots.{number_stored, number_either}
use Rattle.store_tables.proofs.number_slot.NumberSlot.store.Goals as goal

pub returns-clause-store : goal.returns-clause-store
returns-clause-store g c = rw (← c.record.ensures) c.put.ensures

pub returns-clause-stored : goal.returns-clause-stored
returns-clause-stored g c =
    let old = g.K.Keeper.store c.args.keeper.now in
    let new = g.K.Keeper.store c.put.new.self in
    number_stored c.args.self.now c.put.result old new c.args.number c.requires.fits c.requires.least (returns-clause-store g c)

pub returns-clause-elsewhere : goal.returns-clause-elsewhere
returns-clause-elsewhere g c =
    let old = g.K.Keeper.store c.args.keeper.now in
    let new = g.K.Keeper.store c.put.new.self in
    stores_elsewhere old new (Some (number_write c.args.self.now c.args.number)) _ c.args.self.now.slot c.args.self.now.slot (returns-clause-store g c)
    (omega arith, omega arith)

pub returns-clause-either : goal.returns-clause-either
returns-clause-either g c =
    let old = g.K.Keeper.store c.args.keeper.now in
    let new = g.K.Keeper.store c.put.new.self in
    number_either c.args.self.now old.records new.records c.args.number c.requires.fits c.requires.least (rw (← c.record.ensures) c.put.ensures.old_or_new)
