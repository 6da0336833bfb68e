use Rattle.std.proofs.Common.{◌≡◌}
use Rattle.line_view.specs.Recordings.{flights_recorded}
use Rattle.line_view.proofs.recorder.Recorder.push_flights.Given as goal

-- the flights so far
abbrev pub invariant-loop-i : goal.invariant-loop-i
invariant-loop-i l = l.self ≡ flights_recorded l.before l.i l.fn.self
