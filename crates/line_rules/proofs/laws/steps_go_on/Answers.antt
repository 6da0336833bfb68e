-- The law, by the shapes of the steps.
use Rattle.line_rules.proofs.StepsOn.{steps}
use Rattle.line_rules.proofs.laws.steps_go_on.Goals as goal

pub returns : goal.returns
returns c = steps
