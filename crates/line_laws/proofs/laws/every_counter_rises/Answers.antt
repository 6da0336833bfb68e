-- The law, by the traversal of runs.
use Rattle.line_laws.proofs.LawRuns.{every_counter}
use Rattle.line_laws.proofs.laws.every_counter_rises.Goals as goal

pub returns : goal.returns
returns c = every_counter
