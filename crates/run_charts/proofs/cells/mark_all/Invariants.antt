use Rattle.std.proofs.Common.{◌≡◌, drop}
use Rattle.run_charts.specs.Cells.{marked_from}
use Rattle.run_charts.proofs.cells.mark_all.Given as goal

-- what comes of the events to come
abbrev pub invariant-loop-place : goal.invariant-loop-place
invariant-loop-place l = marked_from l.place l.events (drop l.place l.events) l.ranks.items ≡ marked_from 0 l.events l.events l.fn.ranks.items
