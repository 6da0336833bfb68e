use Rattle.line_owner.proofs.Refreshings.{spans_have_one}
use Rattle.line_owner.proofs.laws.spans_have_one.Goals as goal

pub returns : goal.returns
returns c = spans_have_one
