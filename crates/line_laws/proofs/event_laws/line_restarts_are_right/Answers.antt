-- The law, by the ways that events are made.
use Rattle.line_laws.proofs.FurtherRestarts.{line_restarts_right}
use Rattle.line_laws.proofs.event_laws.line_restarts_are_right.Goals as goal

pub returns : goal.returns
returns c = line_restarts_right
