use Rattle.script_lines.proofs.Follow.{ends_before}
use Rattle.script_lines.proofs.machine.a_run_may_end_without_memory.Goals as goal

pub returns : goal.returns
returns g c = λ machine source sink. ends_before _ _ _ source sink
