use Rattle.std.proofs.Common.{ap}
use Rattle.air_draws.specs.Draws.{word, after}
use Rattle.air_draws.proofs.draws.Draws.word.Goals as goal

pub returns-clause-value : goal.returns-clause-value
unfolding word
returns-clause-value c = rw (← c.self.view_is) (ap (λ p. p.0) c.next_word.ensures)

pub returns-clause-after : goal.returns-clause-after
unfolding after
returns-clause-after c = rw (← c.self.view_is) (ap (λ p. p.1) c.next_word.ensures)
