use Rattle.std.proofs.Common.{Ok, Err}
use Rattle.store_tables.proofs.OpenedTables.{reloaded}
use Rattle.store_tables.proofs.slot_table.SlotTable.reload.Goals as goal

pub returns-in-Ok : goal.returns-in-Ok
returns-in-Ok g c =
    let so = reloaded g.E.SlotEntry.layout (g.K.Keeper.store c.args.keeper.now).records (Ok tt) c.read_all.new.self g.met.E.SlotEntry.rests
    g.met.E.SlotEntry.keeps_key c.in-Ok.ensures in
    record { table = c.in-Ok.ensures; reading = so.0; bad = so.3; none = tt; kept = so.1; reopened = so.2 }

pub returns-in-Err : goal.returns-in-Err
returns-in-Err g c =
    let so = reloaded g.E.SlotEntry.layout (g.K.Keeper.store c.args.keeper.now).records (Err c.in-Err.bad) c.clear-in-Err.new.self g.met.E.SlotEntry.rests
    g.met.E.SlotEntry.keeps_key c.in-Err.ensures in
    record { table = c.in-Err.ensures; reading = tt; bad = so.3; none = c.clear-in-Err.ensures; kept = so.1; reopened = so.2 }
