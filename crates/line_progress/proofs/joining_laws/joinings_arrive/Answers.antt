-- The law: the seven events of a joining, one after the other.
use Rattle.line_progress.proofs.AirJoinings.{arrive}
use Rattle.line_progress.proofs.joining_laws.joinings_arrive.Goals as goal

pub returns : goal.returns
returns c = arrive
