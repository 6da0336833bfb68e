use Rattle.std.proofs.Common.{◌≡◌, drop, map}
use Rattle.toml.specs.View.{view}
use Rattle.line_plan.specs.Unknowns.{unknown_of_incidents}
use Rattle.line_plan.proofs.unknown.unknown_of_incidents.Given as goal

-- the incidents before have no such key
abbrev pub invariant-loop-value : goal.invariant-loop-value
invariant-loop-value l =
    (l.nth ≡ l.value-index) × (unknown_of_incidents l.nth (map view (drop l.value-index l.values))
    ≡ unknown_of_incidents 0 (map view l.values))
