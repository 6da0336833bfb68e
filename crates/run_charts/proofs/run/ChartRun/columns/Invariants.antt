use Rattle.std.proofs.Common.{◌≡◌, [], drop}
use Rattle.run_charts.specs.Columns.{columns_from}
use Rattle.run_charts.proofs.run.ChartRun.columns.Given as goal

-- the columns so far, with those of the events to come
abbrev pub invariant-loop-event : goal.invariant-loop-event
invariant-loop-event l = columns_from l.self (drop l.event-index l.events) l.columns.items ≡ columns_from l.self l.events []
