-- The lemma is the law.
use Rattle.pan_discovery.proofs.Histories as lemmas
use Rattle.pan_discovery.proofs.laws.one_more_entry.Goals as goal

pub returns : goal.returns
returns c = lemmas.one_more_entry
