-- The law, by the shapes of the plans.
use Rattle.node_rules.proofs.Bounds.{hears}
use Rattle.node_rules.proofs.laws.hearing_is_bounded.Goals as goal

pub returns : goal.returns
returns c = hears
