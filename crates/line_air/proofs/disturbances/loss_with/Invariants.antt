use Rattle.std.proofs.Common.{◌≡◌, ◌≤◌, take}
use Rattle.std.specs.List.{fold}
use Rattle.line_air.specs.Disturbances.{loss_after}
use Rattle.line_air.proofs.disturbances.loss_with.Given as goal

abbrev pub invariant-loop-noise : goal.invariant-loop-noise
invariant-loop-noise l = record {
  so_far : l.lost ≡ fold (loss_after l.now l.node) l.loss (take l.noise-index l.noises);
  bound : l.lost ≤ 10000;
}
