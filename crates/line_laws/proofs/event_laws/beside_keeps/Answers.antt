-- The law, by each part that is kept.
use Rattle.line_laws.proofs.LaterTurns.{beside_keeps}
use Rattle.line_laws.proofs.event_laws.beside_keeps.Goals as goal

pub returns : goal.returns
returns c = beside_keeps
