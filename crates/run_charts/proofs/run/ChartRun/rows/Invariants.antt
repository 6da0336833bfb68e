use Rattle.std.proofs.Common.{◌≡◌}
use Rattle.run_charts.specs.Rows.{with_events}
use Rattle.run_charts.proofs.run.ChartRun.rows.Given as goal

-- the rows so far
abbrev pub invariant-loop-place : goal.invariant-loop-place
invariant-loop-place l = l.rows.items ≡ with_events l.self l.events l.place
