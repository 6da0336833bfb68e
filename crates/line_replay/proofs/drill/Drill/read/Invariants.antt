use Rattle.std.proofs.Common.{◌≡◌, ◌-◌}
use Rattle.line_replay.specs.Drills.{each, send}
use Rattle.line_replay.proofs.drill.Drill.read.Given as goal

abbrev pub invariant-loop-node : goal.invariant-loop-node
invariant-loop-node l = l.self ≡ each (send l.meters l.round l.zeros) (l.node - 1) l.initial.self
