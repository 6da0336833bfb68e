use Rattle.routing_set.specs.RoutingSet.{offered_entry}
use Rattle.routing_set.proofs.RisingRanks.{entered_found}
use Rattle.routing_set.proofs.laws.an_offer_is_found.Goals as goal

pub returns : goal.returns
returns c = λ routing dest rank next now sound room.
    let found = entered_found routing (offered_entry dest rank next now) now sound room in
    record { rank_is = found.0; route_is = found.1 }
