use Rattle.std.proofs.Common.{◌≡◌, take}
use Rattle.std.specs.Prelude.{fold}
use Rattle.routing_set.specs.FirstEnd.{end_by}
use Rattle.routing_set.proofs.routing_set.RoutingSet.first_end.Given as goal

abbrev pub invariant-loop-entry : goal.invariant-loop-entry
invariant-loop-entry l = l.end ≡ fold end_by 18446744073709551615 (take l.entry-index l.entry-items)
