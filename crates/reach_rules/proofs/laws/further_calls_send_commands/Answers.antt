use Rattle.reach_rules.proofs.Commands.{calls_speak}
use Rattle.reach_rules.proofs.laws.further_calls_send_commands.Goals as goal

pub returns : goal.returns
returns g c = λ h x. calls_speak h x
