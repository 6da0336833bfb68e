use Rattle.std.proofs.Common.{◌≡◌, ◌++◌, drop}
use Rattle.run_maps.specs.Ties.{placed_ties}
use Rattle.run_maps.proofs.tie.placed_ties.Given as goal

-- the lines so far, and those to come
abbrev pub invariant-loop-heard : goal.invariant-loop-heard
invariant-loop-heard l =
    l.placed.items ++ placed_ties l.links l.layout (drop l.heard-index l.heards) ≡ placed_ties l.links l.layout l.heards
