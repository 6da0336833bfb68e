use Rattle.std.proofs.Common.{◌≡◌, ◌≤◌}
use Rattle.line_air.specs.Chances.{come, after_draws}
use Rattle.line_air.proofs.chances.segments_come.Given as goal

abbrev pub invariant-loop-k : goal.invariant-loop-k
invariant-loop-k l = record {
  so_far : l.come ≡ come l.chance l.k l.initial.loss;
  drawn : l.loss ≡ after_draws l.k l.initial.loss;
  few : l.come ≤ l.k;
}
