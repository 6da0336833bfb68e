use Rattle.std.proofs.Common.{◌≡◌, ◌-◌}
use Rattle.line_replay.specs.Drills.{each, make_meter}
use Rattle.line_replay.proofs.drill.Drill.make.Given as goal

abbrev pub invariant-loop-node : goal.invariant-loop-node
invariant-loop-node l = l.self ≡ each (make_meter) (l.node - 1) l.initial.self
