use Rattle.std.proofs.Common.{ap, ◌∙◌, ◌*◌, ◌/◌, ◌^◌}
use Rattle.air_draws.specs.Draws.{below}
use Rattle.air_draws.proofs.draws.Draws.below.Goals as goal

pub returns-clause-value : goal.returns-clause-value
unfolding below
returns-clause-value c = c.scaled.ensures.value ∙ ap (λ w. w * c.args.bound / 2 ^ 32) c.word-word.ensures.value
