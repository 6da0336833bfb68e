use Rattle.node_rules.proofs.ListedPuts.{listed_puts}
use Rattle.node_rules.proofs.outbox_laws.listed_puts_are_the_plans.Goals as goal

pub returns : goal.returns
returns g c = λ old new p answer out before h running e. listed_puts old new p answer out before h running e
