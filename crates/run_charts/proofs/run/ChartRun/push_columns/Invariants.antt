use Rattle.std.proofs.Common.{◌≡◌, ◌++◌, drop}
use Rattle.markup.specs.Markups.{markup_text}
use Rattle.run_charts.specs.Charts.{columns_from}
use Rattle.run_charts.proofs.run.ChartRun.push_columns.Given as goal

-- what was written, and what the rest will be
abbrev pub invariant-loop-place : goal.invariant-loop-place
invariant-loop-place l =
    l.out.items ++ markup_text (columns_from l.self l.place (drop l.place l.columns) l.events l.rows l.bottom)
    ≡ l.fn.out.items ++ markup_text (columns_from l.self 0 l.columns l.events l.rows l.bottom)
