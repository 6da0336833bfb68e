use Rattle.node_rules.proofs.ComposedPlans.{carries_adding}
use Rattle.node_rules.proofs.laws.plans_give_out_more.Goals as goal

pub returns : goal.returns
returns g c = λ frames made opened s t p answer out more. carries_adding frames made opened s t p answer out more
