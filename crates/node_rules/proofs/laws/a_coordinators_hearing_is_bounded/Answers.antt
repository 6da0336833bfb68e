-- The law, by the shapes of the plans.
use Rattle.node_rules.proofs.Bounds.{coordinators_hear}
use Rattle.node_rules.proofs.laws.a_coordinators_hearing_is_bounded.Goals as goal

pub returns : goal.returns
returns c = coordinators_hear
