use Rattle.std.proofs.Common.{◌≡◌, drop}
use Rattle.run_charts.specs.Lives.{stretches_of, with_rows}
use Rattle.run_charts.proofs.life.stretches.Given as goal

-- the stretches so far, with those of the rows to come
abbrev pub invariant-loop-row : goal.invariant-loop-row
invariant-loop-row l = with_rows l.changes l.events (drop l.row-index l.rows) l.list.items ≡ stretches_of l.changes l.events l.rows
