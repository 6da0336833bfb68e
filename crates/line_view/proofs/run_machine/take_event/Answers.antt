use Rattle.script_runs.specs.TakenLines.{Taking, event_taking}
use Rattle.line_view.proofs.Machines.{ended, went_on}
use Rattle.line_view.proofs.Turns.{unwritten}
use Rattle.line_view.proofs.run_machine.take_event.Goals as goal

pub returns-in_default : goal.returns-in_default
returns-in_default g c = λ content. unwritten (g.K.Sink.state c.args.sink.now) c.args.machine.now c.step.new.self _

pub returns-in_default-refusal : goal.returns-in_default-refusal
returns-in_default-refusal g c =
    let t : Taking = event_taking (g.M.RunMachine.rules.world c.args.machine.now) c.args.event.now in
    λ content. went_on g.M.RunMachine.rules (g.K.Sink.state c.args.sink.now) c.args.row content c.args.machine.now c.step.new.self t
    (rw c.in_default-refusal.is at c.in-Ok.ensures)

pub returns : goal.returns
returns g c =
    let t : Taking = event_taking (g.M.RunMachine.rules.world c.args.machine.now) c.args.event.now in
    λ content. ended g.M.RunMachine.rules c.args.row content c.args.machine.now c.step.new.self t c.in-Some.reason c.refuse.result
    (rw c.in-Some.is at c.in-Ok.ensures) c.refuse.ensures
