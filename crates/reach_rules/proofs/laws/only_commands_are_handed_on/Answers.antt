use Rattle.reach_rules.proofs.HandingOn.{only_commands}
use Rattle.reach_rules.proofs.laws.only_commands_are_handed_on.Goals as goal

pub returns : goal.returns
returns c = only_commands
