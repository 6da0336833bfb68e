use Rattle.std.proofs.Common.{◌≡◌, ◌-◌}
use Rattle.line_replay.specs.Drills.{each, challenge}
use Rattle.line_replay.proofs.drill.Drill.challenge_all.Given as goal

abbrev pub invariant-loop-node : goal.invariant-loop-node
invariant-loop-node l = l.self ≡ each (challenge l.meters) (l.node - 1) l.initial.self
