use Rattle.script_runs.proofs.Runs.{entries_run}
use Rattle.script_runs.proofs.laws.every_script_is_a_run.Goals as goal

pub returns : goal.returns
returns c = entries_run
