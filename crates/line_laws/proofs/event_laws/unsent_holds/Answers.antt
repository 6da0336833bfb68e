-- The law, by each part that is kept.
use Rattle.line_laws.proofs.LaterTurns.{unsent_holds}
use Rattle.line_laws.proofs.event_laws.unsent_holds.Goals as goal

pub returns : goal.returns
returns c = unsent_holds
