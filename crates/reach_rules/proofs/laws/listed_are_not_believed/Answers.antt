use Rattle.reach_rules.proofs.CheckedReceptions.{listed_unbelieved}
use Rattle.reach_rules.proofs.laws.listed_are_not_believed.Goals as goal

pub returns : goal.returns
returns g c = λ h x got now p from number cost origin dest key on is listed. listed_unbelieved h x got now p from number cost origin dest key on is listed
