use Rattle.reach_rules.proofs.CheckedReceptions.{replies_acknowledged}
use Rattle.reach_rules.proofs.laws.replies_are_acknowledged.Goals as goal

pub returns : goal.returns
returns g c = λ h x got now p from number cost origin to key heard on is ok. replies_acknowledged h x got now p from number cost origin to key heard on is ok
