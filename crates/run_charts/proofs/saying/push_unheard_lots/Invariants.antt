use Rattle.std.proofs.Common.{◌≡◌, ◌++◌, drop}
use Rattle.markup.specs.Markups.{markup_text}
use Rattle.std.specs.Prelude.{◌+◌}
use Rattle.run_charts.specs.RowSentences.{late_from}
use Rattle.run_charts.proofs.saying.push_unheard_lots.Given as goal

-- what was written, and what the rest will be
abbrev pub invariant-loop-i : goal.invariant-loop-i
invariant-loop-i l =
    l.out.items ++ markup_text (late_from (l.first + l.i) (drop l.i l.courses)) ≡ l.fn.out.items ++ markup_text (late_from l.first l.courses)
