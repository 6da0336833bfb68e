use Rattle.node_rules.proofs.ComposedPlans.{carries_within}
use Rattle.node_rules.proofs.laws.parts_are_carried_out.Goals as goal

pub returns : goal.returns
returns g c = λ whole reads old before new p answer out. carries_within whole reads old before new p answer out
