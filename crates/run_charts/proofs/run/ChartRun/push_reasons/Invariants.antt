use Rattle.std.proofs.Common.{◌≡◌, drop}
use Rattle.std.specs.Prelude.{string_bytes}
use Rattle.run_charts.specs.RowSentences.{reasons_after}
use Rattle.run_charts.proofs.run.ChartRun.push_reasons.Given as goal

-- the sentences so far, and those to come
abbrev pub invariant-loop-event : goal.invariant-loop-event
invariant-loop-event l = reasons_after l.self (drop l.event-index l.events) (string_bytes l.text) ≡ reasons_after l.self l.events (string_bytes l.fn.text)
