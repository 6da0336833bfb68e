use Rattle.neighbour_checks.proofs.AckSpellings as lemmas
use Rattle.neighbour_checks.proofs.laws.acks_are_read.Goals as goal

pub returns : goal.returns
returns c = lemmas.acks_read
