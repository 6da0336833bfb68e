-- The law, by the shapes of the plans.
use Rattle.node_rules.proofs.Refusals.{joins_refused}
use Rattle.node_rules.proofs.laws.a_join_refused_changes_nothing.Goals as goal

pub returns : goal.returns
returns c = joins_refused
