use Rattle.air_draws.proofs.Counted.{none_yet, one_more, four_more}
use Rattle.air_draws.proofs.laws.draws_are_counted.Goals as goal

pub returns-clause-start : goal.returns-clause-start
returns-clause-start c = none_yet

pub returns-clause-word : goal.returns-clause-word
returns-clause-word c = one_more

pub returns-clause-key : goal.returns-clause-key
returns-clause-key c = four_more
