use Rattle.std.proofs.Common.{sym, ◌∙◌}
use Rattle.line_view.proofs.Machines.{quiet}
use Rattle.line_view.proofs.run_machine.LinesLineMachine.take.Goals as goal

pub returns-in-Quiet : goal.returns-in-Quiet
returns-in-Quiet g c =
    quiet g.M.RunMachine.rules c.args.self.now c.self.inside.machine c.take_quiet.new.machine c.args.number c.args.line.now c.args.kind
    c.take_quiet.result c.self.view_is c.in-Text.is (sym c.read_line.ensures.value ∙ c.in-Quiet.is) (c.take_quiet.ensures c.args.number)
