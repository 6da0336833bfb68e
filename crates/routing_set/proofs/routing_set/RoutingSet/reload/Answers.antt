use Rattle.routing_set.proofs.OpenedSets.{read_unrouted}
use Rattle.routing_set.proofs.routing_set.RoutingSet.reload.Goals as goal

pub returns-clause-unrouted : goal.returns-clause-unrouted
returns-clause-unrouted g c dest =
    read_unrouted (g.K.Keeper.store c.args.keeper.now).records c.in-Some.floors c.reload.new.self dest c.in_ok-reload.ensures.reading
