-- The law, by the shapes of the plans.
use Rattle.node_rules.proofs.Refusals.{orders_refused}
use Rattle.node_rules.proofs.laws.an_order_refused_changes_nothing.Goals as goal

pub returns : goal.returns
returns c = orders_refused
