use Rattle.std.proofs.Common.{◌≡◌, take}
use Rattle.line_readings.specs.Readings.{due_of}
use Rattle.line_readings.proofs.counts.due_of.Given as goal

-- those so far
abbrev pub invariant-loop-reading : goal.invariant-loop-reading
invariant-loop-reading l = l.count ≡ due_of l.node (take l.reading-index l.readings)
