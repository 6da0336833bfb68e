use Rattle.std.proofs.Common.{◌≡◌}
use Rattle.line_readings.specs.Readings.{metered}
use Rattle.line_readings.proofs.counts.meters_of.Given as goal

-- the meters so far
abbrev pub invariant-loop-i : goal.invariant-loop-i
invariant-loop-i l = l.meters.items ≡ metered l.spares l.i
