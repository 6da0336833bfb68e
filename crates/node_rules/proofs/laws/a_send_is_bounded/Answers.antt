-- The law, by the shapes of the plans.
use Rattle.node_rules.proofs.Bounds.{sends_bounded}
use Rattle.node_rules.proofs.laws.a_send_is_bounded.Goals as goal

pub returns : goal.returns
returns c = sends_bounded
