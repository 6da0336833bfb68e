use Rattle.std.proofs.Common.{◌≡◌, ◌++◌, drop}
use Rattle.markup.specs.Markups.{markup_text}
use Rattle.run_charts.specs.Lives.{stretches_from}
use Rattle.run_charts.proofs.life.push_stretches.Given as goal

-- what was written, and what the rest will be
abbrev pub invariant-loop-place : goal.invariant-loop-place
invariant-loop-place l =
    l.out.items ++ markup_text (stretches_from l.x l.list l.bottom l.place (drop l.place l.list))
    ≡ l.fn.out.items ++ markup_text (stretches_from l.x l.list l.bottom 0 l.list)
