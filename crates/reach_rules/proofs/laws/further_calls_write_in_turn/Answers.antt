use Rattle.reach_rules.proofs.Commands.{calls_in_turn}
use Rattle.reach_rules.proofs.laws.further_calls_write_in_turn.Goals as goal

pub returns : goal.returns
returns g c = λ h x. calls_in_turn h x
