-- The law, by the traversal of runs.
use Rattle.line_laws.proofs.FurtherRestarts.{every_size}
use Rattle.line_laws.proofs.LawRuns.{every_run}
use Rattle.line_laws.proofs.laws.every_run_is_sized.Goals as goal

pub returns-clause-network : goal.returns-clause-network
returns-clause-network c = every_size

pub returns-clause-others : goal.returns-clause-others
returns-clause-others c = every_run
