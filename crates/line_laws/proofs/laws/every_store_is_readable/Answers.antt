-- The law, by the traversal of runs.
use Rattle.line_laws.proofs.LawRuns.{every_store}
use Rattle.line_laws.proofs.laws.every_store_is_readable.Goals as goal

pub returns : goal.returns
returns c = every_store
