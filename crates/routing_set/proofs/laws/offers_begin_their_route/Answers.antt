use Rattle.routing_set.specs.RoutingSet.{offered_entry}
use Rattle.routing_set.proofs.RisingRanks.{entered_routes}
use Rattle.routing_set.proofs.laws.offers_begin_their_route.Goals as goal

pub returns : goal.returns
returns c = λ routing dest rank next now. entered_routes routing (offered_entry dest rank next now) now
