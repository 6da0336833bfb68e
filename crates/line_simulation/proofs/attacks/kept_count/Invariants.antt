use Rattle.std.proofs.Common.{◌≡◌, take}
use Rattle.line_simulation.specs.Attacks.{kept_count}
use Rattle.line_simulation.proofs.attacks.kept_count.Given as goal

abbrev pub invariant-loop-one : goal.invariant-loop-one
invariant-loop-one l = l.count ≡ kept_count l.node (take l.one-index l.kept)
