use Rattle.std.proofs.Common.{◌≡◌, ◌++◌, drop}
use Rattle.markup.specs.Markups.{markup_text}
use Rattle.run_charts.specs.Charts.{rows_drawing}
use Rattle.run_charts.proofs.run.ChartRun.push_rows.Given as goal

-- what was written, and what the rest will be
abbrev pub invariant-loop-row : goal.invariant-loop-row
invariant-loop-row l =
    l.out.items ++ markup_text (rows_drawing l.self l.columns l.events (drop l.row-index l.rows))
    ≡ l.fn.out.items ++ markup_text (rows_drawing l.self l.columns l.events l.rows)
