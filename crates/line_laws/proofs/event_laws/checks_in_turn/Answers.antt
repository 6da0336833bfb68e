-- The law, by whether the frame is a request of a listed neighbour.
use Rattle.line_laws.proofs.OnePlan.{checks_in_turn}
use Rattle.line_laws.proofs.event_laws.checks_in_turn.Goals as goal

pub returns : goal.returns
returns g c = checks_in_turn
