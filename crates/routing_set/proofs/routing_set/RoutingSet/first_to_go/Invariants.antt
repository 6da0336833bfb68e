use Rattle.std.proofs.Common.{◌≡◌, take, None}
use Rattle.std.specs.Prelude.{fold}
use Rattle.routing_set.specs.RoutingSet.{first_of}
use Rattle.routing_set.proofs.routing_set.RoutingSet.first_to_go.Given as goal

abbrev pub invariant-loop-entry : goal.invariant-loop-entry
invariant-loop-entry l = l.best ≡ fold (first_of l.now) None (take l.entry-index l.entry-items)
