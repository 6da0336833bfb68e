-- The law, by induction over runs.
use Rattle.line_laws.proofs.StepsTaken.{every_step}
use Rattle.line_laws.proofs.laws.every_step_is_taken.Goals as goal

pub returns : goal.returns
returns c = every_step
