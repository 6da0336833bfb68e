use Rattle.std.proofs.Common.{◌≡◌, ◌++◌, drop}
use Rattle.markup.specs.Markups.{markup_text}
use Rattle.run_charts.specs.Lanes.{ticks_from}
use Rattle.run_charts.proofs.lanes.push_ticks.Given as goal

-- what was written, and what the ticks to come will be
abbrev pub invariant-loop-place : goal.invariant-loop-place
invariant-loop-place l =
    l.out.items ++ markup_text (ticks_from l.place l.events l.free l.bottom (drop l.place l.events))
    ≡ l.fn.out.items ++ markup_text (ticks_from 0 l.events 0 l.bottom l.events)
