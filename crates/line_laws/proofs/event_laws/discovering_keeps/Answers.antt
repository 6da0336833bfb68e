-- The law, by each part that is kept.
use Rattle.line_laws.proofs.LaterMoves.{discovering_keeps}
use Rattle.line_laws.proofs.event_laws.discovering_keeps.Goals as goal

pub returns : goal.returns
returns c = discovering_keeps
