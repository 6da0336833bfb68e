use Rattle.node_rules.proofs.ComposedPlans.{carries_behind}
use Rattle.node_rules.proofs.laws.plans_follow_puts.Goals as goal

pub returns : goal.returns
returns g c = λ s t u ws p answer out. carries_behind s t u ws p answer out
