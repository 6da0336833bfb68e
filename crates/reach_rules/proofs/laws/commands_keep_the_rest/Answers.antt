use Rattle.reach_rules.proofs.Commands.{commands_keep}
use Rattle.reach_rules.proofs.laws.commands_keep_the_rest.Goals as goal

pub returns : goal.returns
returns g c = λ h x c. commands_keep h x c
