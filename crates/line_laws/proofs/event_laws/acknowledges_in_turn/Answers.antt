-- The law, by what becomes of the writes.
use Rattle.line_laws.proofs.OnePlan.{acknowledges_in_turn}
use Rattle.line_laws.proofs.event_laws.acknowledges_in_turn.Goals as goal

pub returns : goal.returns
returns g c = acknowledges_in_turn
