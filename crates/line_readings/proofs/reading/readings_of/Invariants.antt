use Rattle.std.proofs.Common.{All}
use Rattle.line_readings.specs.Readings.{IsTrueOf}
use Rattle.line_readings.proofs.reading.readings_of.Given as goal

-- each that came so far did
abbrev pub invariant-loop-note : goal.invariant-loop-note
invariant-loop-note l = All (IsTrueOf l.run.stories.now) l.readings.items
