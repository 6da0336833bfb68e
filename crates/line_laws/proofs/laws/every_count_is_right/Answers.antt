-- The law, by the traversal of runs.
use Rattle.line_laws.proofs.LawRuns.{every_count}
use Rattle.line_laws.proofs.laws.every_count_is_right.Goals as goal

pub returns : goal.returns
returns c = every_count
