-- The lemma is the law.
use Rattle.pan_discovery.proofs.Readings as lemmas
use Rattle.pan_discovery.proofs.laws.discoveries_are_read.Goals as goal

pub returns : goal.returns
returns c = lemmas.discoveries_read
