-- The law, by the shapes of the plans.
use Rattle.node_rules.proofs.Bounds.{joins_bounded}
use Rattle.node_rules.proofs.laws.a_join_is_bounded.Goals as goal

pub returns : goal.returns
returns c = joins_bounded
