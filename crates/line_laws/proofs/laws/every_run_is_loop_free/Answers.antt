-- The law, by what every event keeps.
use Rattle.line_laws.proofs.FurtherLoops.{every_run}
use Rattle.line_laws.proofs.laws.every_run_is_loop_free.Goals as goal

pub returns : goal.returns
returns c = every_run
