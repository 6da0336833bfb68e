use Rattle.reach_rules.proofs.Once.{once}
use Rattle.reach_rules.proofs.laws.a_broadcast_is_handed_up_once.Goals as goal

pub returns : goal.returns
returns g c = λ h x own b c heard e origin number. once h x own b c heard e origin number
