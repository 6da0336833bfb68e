-- The law, by the shapes of the plans.
use Rattle.node_rules.proofs.Refusals.{sends_refused}
use Rattle.node_rules.proofs.laws.a_send_refused_changes_nothing.Goals as goal

pub returns : goal.returns
returns c = sends_refused
