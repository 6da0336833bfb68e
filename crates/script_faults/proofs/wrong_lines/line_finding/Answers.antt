use Rattle.script_faults.proofs.FoundLines.{found_at_all}
use Rattle.script_faults.proofs.wrong_lines.line_finding.Goals as goal

pub returns-clause-finds : goal.returns-clause-finds
returns-clause-finds c = found_at_all c.args.line.now c.found_in.result c.found_in.ensures
