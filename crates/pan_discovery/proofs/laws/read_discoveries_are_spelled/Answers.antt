-- The lemma is the law.
use Rattle.pan_discovery.proofs.Readings as lemmas
use Rattle.pan_discovery.proofs.laws.read_discoveries_are_spelled.Goals as goal

pub returns : goal.returns
returns c = lemmas.discoveries_spelled
