use Rattle.std.proofs.Common.{ap, nat_lt}
use Rattle.air_draws.specs.Draws.{happens}
use Rattle.air_draws.proofs.draws.Draws.happens.Goals as goal

pub returns-clause-value : goal.returns-clause-value
unfolding happens
returns-clause-value c = ap (λ n. nat_lt n c.args.chance) c.below.ensures.value
