use Rattle.std.proofs.Common.{◌≡◌, take}
use Rattle.line_readings.specs.Readings.{missing_of}
use Rattle.line_readings.proofs.counts.missing_of.Given as goal

-- those so far
abbrev pub invariant-loop-reading : goal.invariant-loop-reading
invariant-loop-reading l = l.count ≡ missing_of l.node (take l.reading-index l.readings)
