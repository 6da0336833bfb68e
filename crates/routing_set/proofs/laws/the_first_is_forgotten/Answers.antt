use Rattle.routing_set.proofs.ForgottenEntries.{first_or_fresh}
use Rattle.routing_set.proofs.laws.the_first_is_forgotten.Goals as goal

pub returns : goal.returns
returns c = first_or_fresh
