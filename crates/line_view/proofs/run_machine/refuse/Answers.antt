use Rattle.std.proofs.Common.{sym, subst}
use Rattle.script_lines.specs.Clauses.{StopsWith}
use Rattle.line_view.specs.RunMachines.{refused_text}
use Rattle.line_view.proofs.Turns.{stops_by}
use Rattle.line_view.proofs.run_machine.refuse.Goals as goal

pub returns : goal.returns
returns g c =
    let text = refused_text g.M.RunMachine.rules c.args.machine.now c.args.row c.args.reason in
    subst (StopsWith _ _ text) (sym c.bad_line.ensures) (stops_by text c.write_octets.result (c.write_octets.ensures text c.output.ensures))
