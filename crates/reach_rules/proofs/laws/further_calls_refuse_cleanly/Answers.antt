use Rattle.reach_rules.proofs.Commands.{calls_cleanly}
use Rattle.reach_rules.proofs.laws.further_calls_refuse_cleanly.Goals as goal

pub returns : goal.returns
returns g c = λ h x. calls_cleanly h x
