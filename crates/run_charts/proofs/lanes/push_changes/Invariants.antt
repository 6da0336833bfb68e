use Rattle.std.proofs.Common.{◌≡◌, ◌++◌, drop}
use Rattle.markup.specs.Markups.{markup_text}
use Rattle.run_charts.specs.Lanes.{changes_from}
use Rattle.run_charts.proofs.lanes.push_changes.Given as goal

-- what was written, and what the changes to come will be
abbrev pub invariant-loop-place : goal.invariant-loop-place
invariant-loop-place l =
    l.out.items ++ markup_text (changes_from l.events l.size l.node l.changes l.place (drop l.place l.changes))
    ≡ l.fn.out.items ++ markup_text (changes_from l.events l.size l.node l.changes 0 l.changes)
