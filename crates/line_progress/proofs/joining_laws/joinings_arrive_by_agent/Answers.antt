-- The law: the thirteen events of a joining by an agent, one after the other.
use Rattle.line_progress.proofs.AgentJoinings.{arrive}
use Rattle.line_progress.proofs.joining_laws.joinings_arrive_by_agent.Goals as goal

pub returns : goal.returns
returns c = arrive
