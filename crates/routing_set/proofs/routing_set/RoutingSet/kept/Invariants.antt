use Rattle.std.proofs.Common.{◌≡◌, map, take}
use Rattle.routing_set.proofs.routing_set.RoutingSet.kept.Given as goal

abbrev pub invariant-loop-entry : goal.invariant-loop-entry
invariant-loop-entry l = l.kept.items ≡ map (λ entry. entry.address) (take l.entry-index l.entry-items)
