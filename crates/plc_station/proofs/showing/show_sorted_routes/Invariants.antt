use Rattle.std.proofs.Common.{◌≡◌, map, take}
use Rattle.routing_set.specs.declared.entry.RoutingEntry.{RoutingEntry}
use Rattle.node_rules.specs.ShownNodes.{ordered_by, shown_route}
use Rattle.plc_station.proofs.showing.show_sorted_routes.Given as goal

abbrev pub invariant-loop-dest : goal.invariant-loop-dest
invariant-loop-dest l = l.out ≡ map shown_route (take l.dest-index (ordered_by (λ (e : RoutingEntry). e.address) l.routing.entries))
