-- The law, by the traversal of runs.
use Rattle.line_laws.proofs.LawRuns.{every_mark}
use Rattle.line_laws.proofs.laws.every_mark_rises.Goals as goal

pub returns : goal.returns
returns c = every_mark
