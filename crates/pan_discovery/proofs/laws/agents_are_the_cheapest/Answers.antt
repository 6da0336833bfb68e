-- The lemmas are the laws.
use Rattle.pan_discovery.proofs.AgentOrder as lemmas
use Rattle.pan_discovery.proofs.laws.agents_are_the_cheapest.Goals as goal

pub returns-clause-order : goal.returns-clause-order
returns-clause-order c = lemmas.agents_in_order

pub returns-clause-distinct : goal.returns-clause-distinct
returns-clause-distinct c = lemmas.agents_apart

pub returns-clause-heard : goal.returns-clause-heard
returns-clause-heard c = lemmas.agents_heard

pub returns-clause-senders : goal.returns-clause-senders
returns-clause-senders c = lemmas.senders_are_agents
