use Rattle.routing_set.proofs.OpenedSets.{read_unrouted, read_still}
use Rattle.routing_set.proofs.routing_set.RoutingSet.open.Goals as goal

pub returns-clause-unrouted : goal.returns-clause-unrouted
returns-clause-unrouted g c dest =
    read_unrouted (g.K.Keeper.store c.args.keeper.now).records c.in-Some.floors c.in_ok-table.table dest c.in_ok-table.ensures.reading

pub invariant_of-result : goal.invariant_of-result
invariant_of-result g c =
    read_still (g.K.Keeper.store c.args.keeper.now).records c.in_ok-table.table 18446744073709551615 c.in_ok-table.ensures.reading
