use Rattle.std.proofs.Common.{◌≡◌, ◌++◌, drop}
use Rattle.markup.specs.Markups.{markup_text}
use Rattle.run_charts.specs.RowSentences.{saying_list}
use Rattle.run_charts.proofs.run.ChartRun.push_saying_list.Given as goal

-- what was written, and what the rest will be
abbrev pub invariant-loop-row : goal.invariant-loop-row
invariant-loop-row l =
    l.out.items ++ markup_text (saying_list l.self l.events (drop l.row-index l.rows))
    ≡ l.fn.out.items ++ markup_text (saying_list l.self l.events l.rows)
