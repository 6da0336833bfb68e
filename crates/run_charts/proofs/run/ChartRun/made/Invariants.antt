use Rattle.std.proofs.Common.{◌≡◌, drop}
use Rattle.run_charts.specs.RowSentences.{made_by_all, made_from}
use Rattle.run_charts.proofs.run.ChartRun.made.Given as goal

-- what the events so far made, and those to come
abbrev pub invariant-loop-event : goal.invariant-loop-event
invariant-loop-event l = made_from l.self (drop l.event-index l.events) l.made ≡ made_by_all l.self l.events
