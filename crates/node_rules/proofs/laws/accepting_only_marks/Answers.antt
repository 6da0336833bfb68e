-- The law, by the shapes of the plans.
use Rattle.node_rules.proofs.CallShapes.{only_marks}
use Rattle.node_rules.proofs.laws.accepting_only_marks.Goals as goal

pub returns : goal.returns
returns c = only_marks
