use Rattle.std.proofs.Common.{◌≡◌, [], drop, map}
use Rattle.toml.specs.View.{view}
use Rattle.line_plan.specs.Plans.{incidents_from}
use Rattle.line_plan.proofs.plan.incidents_from.Given as goal

-- the incidents so far and those of the values to come are those of all values
abbrev pub invariant-loop-value : goal.invariant-loop-value
invariant-loop-value l =
    incidents_from l.place l.meters l.incidents.items (map view (drop l.value-index l.values)) ≡ incidents_from l.place l.meters [] (map view l.values)
