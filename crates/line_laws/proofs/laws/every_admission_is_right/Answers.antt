-- The law, by the kinds of events.
use Rattle.line_laws.proofs.AdmittedRight.{every_admission}
use Rattle.line_laws.proofs.laws.every_admission_is_right.Goals as goal

pub returns : goal.returns
returns c = every_admission
