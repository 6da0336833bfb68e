use Rattle.std.proofs.Common.{◌≡◌, ◌++◌, drop}
use Rattle.std.specs.Prelude.{string_bytes}
use Rattle.run_charts.specs.Lanes.{outline_from}
use Rattle.run_charts.proofs.lanes.push_marks_of.Given as goal

-- what was written, and what the marks to come will be
abbrev pub invariant-loop-cell : goal.invariant-loop-cell
invariant-loop-cell l =
    string_bytes l.outline ++ outline_from l.size l.mark l.rank l.cell (drop l.cell l.ranks)
    ≡ string_bytes l.fn.outline ++ outline_from l.size l.mark l.rank 0 l.ranks
