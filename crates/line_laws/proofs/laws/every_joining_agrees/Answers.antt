-- The law, by the traversal of runs.
use Rattle.line_laws.proofs.KeyedRuns.{every_joining}
use Rattle.line_laws.proofs.laws.every_joining_agrees.Goals as goal

pub returns : goal.returns
returns c = every_joining
