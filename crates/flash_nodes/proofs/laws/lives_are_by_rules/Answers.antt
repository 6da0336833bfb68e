use Rattle.flash_nodes.proofs.Lives.{lives_by_rules}
use Rattle.flash_nodes.proofs.laws.lives_are_by_rules.Goals as goal

pub returns : goal.returns
returns g c = λ role first last events found settled is may. lives_by_rules role first last events found settled is may
