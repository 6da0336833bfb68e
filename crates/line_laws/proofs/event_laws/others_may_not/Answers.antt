-- The law, at its ends.
use Rattle.line_laws.proofs.LaterEnds.{others_may_not}
use Rattle.line_laws.proofs.event_laws.others_may_not.Goals as goal

pub returns : goal.returns
returns c = others_may_not
