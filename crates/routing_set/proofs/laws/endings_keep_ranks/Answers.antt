use Rattle.std.proofs.Common.{refl}
use Rattle.routing_set.proofs.RisingRanks.{ended_routes, ended_ranks, ended_held}
use Rattle.routing_set.proofs.laws.endings_keep_ranks.Goals as goal

pub returns : goal.returns
returns c = λ test routing to. record {
  route = ended_routes test routing to;
  rank = ended_ranks test routing to;
  held = ended_held test routing to;
  floors = refl;
}
