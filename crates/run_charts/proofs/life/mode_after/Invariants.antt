use Rattle.std.proofs.Common.{◌≡◌, drop}
use Rattle.std.specs.Prelude.{None}
use Rattle.run_charts.specs.Lives.{mode_from}
use Rattle.run_charts.proofs.life.mode_after.Given as goal

-- what it is by the changes so far, and by those to come
abbrev pub invariant-loop-change : goal.invariant-loop-change
invariant-loop-change l = mode_from (drop l.change-index l.changes) l.event l.mode ≡ mode_from l.changes l.event None
