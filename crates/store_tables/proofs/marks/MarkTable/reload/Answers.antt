use Rattle.store_tables.proofs.MarkEntries.{reload_covered}
use Rattle.store_tables.proofs.marks.MarkTable.reload.Goals as goal

pub invariant_of-self : goal.invariant_of-self
invariant_of-self g c =
    reload_covered g.row.FIRST g.row.SLOTS c.reload.result c.reload.new.self (g.K.Keeper.store c.args.keeper.now).records c.reload.ensures.reading
    c.reload.ensures.none
