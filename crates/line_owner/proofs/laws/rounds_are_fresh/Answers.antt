use Rattle.line_owner.proofs.Refreshings.{rounds_are_fresh}
use Rattle.line_owner.proofs.laws.rounds_are_fresh.Goals as goal

pub returns : goal.returns
returns c = rounds_are_fresh
