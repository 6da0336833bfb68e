use Rattle.reach_rules.proofs.Commands.{acknowledgements_speak}
use Rattle.reach_rules.proofs.laws.acknowledgements_are_commands.Goals as goal

pub returns : goal.returns
returns g c = λ h to number origin m. acknowledgements_speak h to number origin m
