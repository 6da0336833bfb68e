-- The law, at its ends.
use Rattle.line_laws.proofs.LaterEnds.{may_be_sealed}
use Rattle.line_laws.proofs.event_laws.commands_may_be_sealed.Goals as goal

pub returns : goal.returns
returns c = may_be_sealed
