-- The law, by induction over runs.
use Rattle.line_laws.proofs.CheckedRight.{every_check}
use Rattle.line_laws.proofs.laws.every_check_is_right.Goals as goal

pub returns : goal.returns
returns c = every_check
