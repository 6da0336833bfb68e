-- The law, by the ways that events are made.
use Rattle.line_laws.proofs.FurtherRight.{line_traces_right}
use Rattle.line_laws.proofs.event_laws.line_traces_are_right.Goals as goal

pub returns : goal.returns
returns c = line_traces_right
