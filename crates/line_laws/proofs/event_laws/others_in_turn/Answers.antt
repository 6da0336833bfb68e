-- The law, by a plan whose answer is read as another one.
use Rattle.line_laws.proofs.OnePlan.{others_in_turn}
use Rattle.line_laws.proofs.event_laws.others_in_turn.Goals as goal

pub returns : goal.returns
returns g c = others_in_turn
