use Rattle.std.proofs.Common.{length, arith, ap}
use Rattle.store_tables.proofs.SlotTables.{stored_set, set_either}
use Rattle.store_tables.proofs.slot_table.SlotTable.set_stored.Goals as goal

pub store_entry-requires-clause-place : goal.store_entry-requires-clause-place
store_entry-requires-clause-place g c = omega (arith, c.self.invariant.sound.short, ap length c.self.view_is)

pub returns-clause-kept : goal.returns-clause-kept
returns-clause-kept g c =
    let layout = g.E.SlotEntry.layout in
    let old = (g.K.Keeper.store c.args.keeper.now).records in
    let new = (g.K.Keeper.store c.store_entry.new.keeper).records in
    rw c.replace.ensures
    (stored_set layout c.args.self.now old new c.args.place c.args.entry c.requires.kept c.requires.within c.in_ok-store_entry.ensures.store.stored
    c.store_entry.ensures.reads_back)

pub returns-in_err-store_entry-clause-either : goal.returns-in_err-store_entry-clause-either
returns-in_err-store_entry-clause-either g c =
    let layout = g.E.SlotEntry.layout in
    let old = (g.K.Keeper.store c.args.keeper.now).records in
    let new = (g.K.Keeper.store c.store_entry.new.keeper).records in
    set_either layout c.args.self.now old new c.args.place c.args.entry c.requires.kept c.requires.within c.store_entry.ensures.store.old_or_new
    c.store_entry.ensures.reads_back

pub returns-clause-either : goal.returns-clause-either
returns-clause-either g c =
    let layout = g.E.SlotEntry.layout in
    let old = (g.K.Keeper.store c.args.keeper.now).records in
    let new = (g.K.Keeper.store c.store_entry.new.keeper).records in
    set_either layout c.args.self.now old new c.args.place c.args.entry c.requires.kept c.requires.within c.store_entry.ensures.store.old_or_new
    c.store_entry.ensures.reads_back
