-- The lemma is the law.
use Rattle.pan_discovery.proofs.AgentPlaces as lemmas
use Rattle.pan_discovery.proofs.laws.first_agents_suffice.Goals as goal

pub returns : goal.returns
returns c = lemmas.first_agents
