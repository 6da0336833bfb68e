use Rattle.std.proofs.Common.{◌≡◌}
use Rattle.run_maps.specs.Layouts.{widened}
use Rattle.run_maps.proofs.grid.widened.Given as goal

-- so far
abbrev pub invariant-loop-time : goal.invariant-loop-time
invariant-loop-time l = l.side ≡ widened l.nodes l._time
