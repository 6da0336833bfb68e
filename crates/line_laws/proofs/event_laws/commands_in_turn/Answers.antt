-- The law, by what a node does about a command by its rule for other frames: nothing.
use Rattle.line_laws.proofs.OnePlan.{commands_in_turn}
use Rattle.line_laws.proofs.event_laws.commands_in_turn.Goals as goal

pub returns : goal.returns
returns g c = commands_in_turn
