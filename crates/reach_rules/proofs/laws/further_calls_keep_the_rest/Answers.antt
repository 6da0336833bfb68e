use Rattle.reach_rules.proofs.Commands.{calls_keep}
use Rattle.reach_rules.proofs.laws.further_calls_keep_the_rest.Goals as goal

pub returns : goal.returns
returns g c = λ h x. calls_keep h x
