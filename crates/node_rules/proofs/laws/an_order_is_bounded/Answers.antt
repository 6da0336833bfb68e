-- The law, by the shapes of the plans.
use Rattle.node_rules.proofs.Bounds.{orders_bounded}
use Rattle.node_rules.proofs.laws.an_order_is_bounded.Goals as goal

pub returns : goal.returns
returns c = orders_bounded
