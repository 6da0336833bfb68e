use Rattle.flash_nodes.proofs.DecidedCalls.{openings_decide, running_settled}
use Rattle.flash_nodes.proofs.laws.openings_decide_cuts.Goals as goal

pub returns-clause-decided : goal.returns-clause-decided
returns-clause-decided g c = λ old new p answer out found settled h may. openings_decide old new p answer out found settled h may

pub returns-clause-settled : goal.returns-clause-settled
returns-clause-settled g c = λ old new p answer out settled h running. running_settled old new p answer out settled h running
