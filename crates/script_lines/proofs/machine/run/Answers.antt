use Rattle.script_lines.proofs.Follow.{ends_before}
use Rattle.script_lines.proofs.machine.run.Goals as goal

pub returns-in-Err-clause-drives : goal.returns-in-Err-clause-drives
returns-in-Err-clause-drives g c = ends_before _ _ _ _ _
