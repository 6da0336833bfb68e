use Rattle.std.proofs.Common.{◌≡◌, ◌++◌}
use Rattle.markup.specs.Markups.{markup_text}
use Rattle.run_charts.specs.Lanes.{lanes_of}
use Rattle.run_charts.proofs.run.ChartRun.push_lanes_of.Given as goal

-- the lanes so far
abbrev pub invariant-loop-number : goal.invariant-loop-number
invariant-loop-number l = l.out.items ≡ l.fn.out.items ++ markup_text (lanes_of l.self l.size l.number)
