-- The law, by each part that is kept.
use Rattle.line_laws.proofs.LaterTurns.{keeps_in_turn}
use Rattle.line_laws.proofs.event_laws.keeps_in_turn.Goals as goal

pub returns : goal.returns
returns c = keeps_in_turn
