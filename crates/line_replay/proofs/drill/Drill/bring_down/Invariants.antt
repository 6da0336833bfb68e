use Rattle.std.proofs.Common.{◌≡◌, ◌-◌}
use Rattle.line_replay.specs.Drills.{each, bring}
use Rattle.line_replay.proofs.drill.Drill.bring_down.Given as goal

abbrev pub invariant-loop-node : goal.invariant-loop-node
invariant-loop-node l = l.self ≡ each (λ node. bring l.flight 0 node) (l.node - 1) l.initial.self
