use Rattle.neighbour_checks.proofs.Histories as lemmas
use Rattle.neighbour_checks.proofs.laws.one_more_entry.Goals as goal

pub returns-clause-start : goal.returns-clause-start
returns-clause-start c = lemmas.nobody_at_the_start

pub returns-clause-more : goal.returns-clause-more
returns-clause-more c = lemmas.one_more_entry
