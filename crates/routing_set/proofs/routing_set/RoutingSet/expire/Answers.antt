use Rattle.std.proofs.Common.{sym, subst}
use Rattle.routing_set.specs.RoutingSet.{Routing}
use Rattle.routing_set.specs.FirstEnd.{IsStill}
use Rattle.routing_set.proofs.FirstEnds.{none_ends}
use Rattle.routing_set.proofs.routing_set.RoutingSet.expire.Goals as goal

pub returns-then-now-self-clause-routing : goal.returns-then-now-self-clause-routing
returns-then-now-self-clause-routing c =
    sym (none_ends c.args.self.now c.self.inside.next_end c.args.now c.if-now-self.true
    (subst (λ (r : Routing). IsStill c.self.inside.next_end r.entries) c.self.view_is c.self.invariant))
