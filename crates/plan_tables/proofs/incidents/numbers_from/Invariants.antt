use Rattle.std.proofs.Common.{◌≡◌, [], drop, map}
use Rattle.toml.specs.View.{view}
use Rattle.plan_tables.specs.Incidents.{numbers_from}
use Rattle.plan_tables.proofs.incidents.numbers_from.Given as goal

-- the nodes so far and those of the values to come are the nodes of all values
abbrev pub invariant-loop-value : goal.invariant-loop-value
invariant-loop-value l =
    numbers_from l.of l.nodes.items (map view (drop l.value-index l.values)) ≡ numbers_from l.of [] (map view l.values)
