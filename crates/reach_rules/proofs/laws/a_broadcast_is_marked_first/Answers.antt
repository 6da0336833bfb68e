use Rattle.reach_rules.proofs.Commands.{marked_first}
use Rattle.reach_rules.proofs.laws.a_broadcast_is_marked_first.Goals as goal

pub returns : goal.returns
returns g c = λ h x own b heard e. marked_first h x own b heard e
