-- What route messages offer: ranks for addresses.
use Rattle.std.specs.Prelude.{◌≡◌, ◌≤◌, true, false}
use Rattle.routing_set.specs.declared.rank.Rank.{Rank}
use Rattle.routing_set.specs.RoutingSet.{Routing, is_better, is_full}
use Rattle.plc_station.specs.declared.offers.LastHop.{LastHop}
use Rattle.plc_station.specs.declared.offers.Offered.{Offered}
use Rattle.plc_station.specs.declared.offers.Offer.{Offer}

-- the rank that is offered
abbrev pub offered_rank : Offered → Rank
offered_rank o = record { number = o.number; cost = o.cost }

-- the rank as it is taken from the neighbour that offered it
abbrev pub offer_of : LastHop → Offered → Offer
offer_of last o = record { by = last.by; origin = o.origin; rank = offered_rank o; time = last.time }

-- It is a rank, beats the one that is held, and there is a place for it.
pub record CanBeKept (r : Routing) (o : Offer) : Type 0 where
  pub valid : 1 ≤ o.rank.number
  pub better : is_better r o.origin o.rank ≡ true
  pub room : is_full r o.origin o.time ≡ false
