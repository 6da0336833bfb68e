-- The law, at its ends.
use Rattle.line_laws.proofs.LaterEnds.{start_holds}
use Rattle.line_laws.proofs.event_laws.the_start_holds.Goals as goal

pub returns : goal.returns
returns c = start_holds
