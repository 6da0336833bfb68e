use Rattle.std.proofs.Common.{◌-◌, ◌≤◌, IsTrue}
use Rattle.script_lines.specs.Next.{IsOver}
use Rattle.script_lines.proofs.Follow.{SoFar}
use Rattle.script_lines.proofs.machine.follow.Given as goal

abbrev pub invariant-loop-machine : goal.invariant-loop-machine
invariant-loop-machine g l = record {
  so_far : SoFar g.M.LineMachine.turn g.M.LineMachine.end_text l.fn.machine (g.S.Source.state l.fn.source) (g.S.Source.state l.source)
      (g.K.Sink.state l.fn.sink) (g.K.Sink.state l.sink) l.machine l.input.seen l.input.count l.input.window.ahead l.input.ended;
  over : IsTrue l.input.ended → IsOver (g.S.Source.state l.source);
  within : l.input.seen ≤ 67108864;
}

abbrev pub decreases-loop-machine : goal.decreases-loop-machine
decreases-loop-machine g l = 67108864 - l.input.seen
