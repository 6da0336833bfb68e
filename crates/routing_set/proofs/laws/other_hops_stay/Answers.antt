use Rattle.routing_set.proofs.LostRoutes.{hop_left}
use Rattle.routing_set.proofs.laws.other_hops_stay.Goals as goal

pub returns : goal.returns
returns c = hop_left
