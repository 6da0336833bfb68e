use Rattle.node_rules.proofs.Outcomes.{carried}
use Rattle.node_rules.proofs.laws.calls_are_functions.Goals as goal

pub returns : goal.returns
returns g c = λ old new p answer out h. carried old p answer out new h
