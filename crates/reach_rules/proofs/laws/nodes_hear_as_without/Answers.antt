use Rattle.reach_rules.proofs.AsWithout.{nodes_hear}
use Rattle.reach_rules.proofs.laws.nodes_hear_as_without.Goals as goal

pub returns : goal.returns
returns c = nodes_hear
