-- The law, by the traversal of runs.
use Rattle.line_laws.proofs.FurtherStates.{every_issued_right}
use Rattle.line_laws.proofs.laws.every_key_is_issued_right.Goals as goal

pub returns : goal.returns
returns c = every_issued_right
