-- The law, by the traversal of runs.
use Rattle.line_laws.proofs.LawRuns.{every_restart}
use Rattle.line_laws.proofs.laws.every_restart_is_answered.Goals as goal

pub returns : goal.returns
returns c = every_restart
