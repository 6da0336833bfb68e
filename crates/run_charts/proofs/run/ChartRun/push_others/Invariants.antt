use Rattle.std.proofs.Common.{◌≡◌, ◌++◌, drop}
use Rattle.markup.specs.Markups.{markup_text}
use Rattle.run_charts.specs.Charts.{others}
use Rattle.run_charts.proofs.run.ChartRun.push_others.Given as goal

-- what was written, and what the rest will be
abbrev pub invariant-loop-event : goal.invariant-loop-event
invariant-loop-event l =
    l.out.items ++ markup_text (others l.self l.columns (drop l.event-index l.events) l.y)
    ≡ l.fn.out.items ++ markup_text (others l.self l.columns l.events l.y)
