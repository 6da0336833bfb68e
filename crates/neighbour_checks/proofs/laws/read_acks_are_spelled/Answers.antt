use Rattle.neighbour_checks.proofs.AckSpellings as lemmas
use Rattle.neighbour_checks.proofs.laws.read_acks_are_spelled.Goals as goal

pub returns : goal.returns
returns c = lemmas.acks_spelled
