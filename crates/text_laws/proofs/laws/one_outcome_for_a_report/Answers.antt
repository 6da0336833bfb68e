use Rattle.text_laws.proofs.OneOutcome.{one_outcome}
use Rattle.text_laws.proofs.laws.one_outcome_for_a_report.Goals as goal

pub returns : goal.returns
returns c = one_outcome
