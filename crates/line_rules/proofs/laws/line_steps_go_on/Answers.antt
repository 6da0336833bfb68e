-- The law, by the shapes of the steps.
use Rattle.line_rules.proofs.StepsOn.{line_steps}
use Rattle.line_rules.proofs.laws.line_steps_go_on.Goals as goal

pub returns : goal.returns
returns c = line_steps
