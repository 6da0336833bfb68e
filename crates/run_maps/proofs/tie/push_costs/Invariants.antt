use Rattle.std.proofs.Common.{◌≡◌, ◌++◌, drop}
use Rattle.markup.specs.Markups.{markup_text}
use Rattle.run_maps.specs.Ties.{costs}
use Rattle.run_maps.proofs.tie.push_costs.Given as goal

-- what was written, and the costs to come
abbrev pub invariant-loop-placed : goal.invariant-loop-placed
invariant-loop-placed l =
    l.out.items ++ markup_text (costs (drop l.placed-index l.ties)) ≡ l.fn.out.items ++ markup_text (costs l.ties)
