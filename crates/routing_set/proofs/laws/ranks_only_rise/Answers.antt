use Rattle.routing_set.proofs.Histories.{now_is_above}
use Rattle.routing_set.proofs.laws.ranks_only_rise.Goals as goal

pub returns : goal.returns
returns c = now_is_above
