use Rattle.std.proofs.Common.{◌≡◌, take}
use Rattle.line_readings.specs.Readings.{came_in}
use Rattle.line_readings.proofs.headline.came_in.Given as goal

-- those so far
abbrev pub invariant-loop-reading : goal.invariant-loop-reading
invariant-loop-reading l = l.came ≡ came_in (take l.reading-index l.readings)
