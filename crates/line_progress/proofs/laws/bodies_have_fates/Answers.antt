-- The law, by the cases of its rule.
use Rattle.line_progress.proofs.BodyFates.{body_fates}
use Rattle.line_progress.proofs.laws.bodies_have_fates.Goals as goal

pub returns : goal.returns
returns c = body_fates
