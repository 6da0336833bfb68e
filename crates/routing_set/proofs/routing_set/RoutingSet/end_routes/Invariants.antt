use Rattle.std.proofs.Common.{◌≡◌, ◌++◌, map, take, drop, length}
use Rattle.routing_set.specs.RouteEnds.{after_ending}
use Rattle.routing_set.proofs.routing_set.RoutingSet.end_routes.Given as goal

abbrev pub invariant-loop-place : goal.invariant-loop-place
invariant-loop-place l = record {
  entries : l.self-inside.table ≡ map (after_ending l.ending) (take l.place l.initial.self-inside.table) ++ drop l.place l.initial.self-inside.table;
  floors : l.self-inside.floors ≡ l.initial.self-inside.floors;
  bound : l.self-inside.next_end ≡ l.initial.self-inside.next_end;
  end : l.place-end ≡ length l.initial.self-inside.table;
}
