-- The law, by the traversal of runs.
use Rattle.line_laws.proofs.AgreedRight.{every_agreement}
use Rattle.line_laws.proofs.laws.every_agreement_is_said.Goals as goal

pub returns : goal.returns
returns c = every_agreement
