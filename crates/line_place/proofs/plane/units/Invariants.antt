use Rattle.std.proofs.Common.{◌≡◌, ◌≤◌}
use Rattle.line_place.specs.Distances.{units}
use Rattle.line_place.proofs.plane.units.Given as goal

abbrev pub invariant-loop-k : goal.invariant-loop-k
invariant-loop-k l = (l.units ≡ units l.k l.square) × (l.units ≤ l.k)
