use Rattle.std.proofs.Common.{ap, ◌∙◌}
use Rattle.rand_pcg.specs.Lcg.{started, increment_of}
use Rattle.rand_pcg.specs.Pcg.{multiplier_64}
use Rattle.air_draws.specs.Draws.{first}
use Rattle.air_draws.proofs.draws.Draws.new.Goals as goal

pub returns : goal.returns
unfolding first
returns c = c.new.ensures ∙ ap (λ k. started 64 multiplier_64 c.args.seed (increment_of 64 k)) c.stream.ensures
