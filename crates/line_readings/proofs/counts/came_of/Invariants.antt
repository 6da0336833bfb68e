use Rattle.std.proofs.Common.{◌≡◌, take}
use Rattle.line_readings.specs.Readings.{came_of}
use Rattle.line_readings.proofs.counts.came_of.Given as goal

-- those so far
abbrev pub invariant-loop-reading : goal.invariant-loop-reading
invariant-loop-reading l = l.count ≡ came_of l.node (take l.reading-index l.readings)
