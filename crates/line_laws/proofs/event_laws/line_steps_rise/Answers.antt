-- The law, by the ways that events are made.
use Rattle.line_laws.proofs.FurtherStepKinds.{line_steps_rise}
use Rattle.line_laws.proofs.event_laws.line_steps_rise.Goals as goal

pub returns : goal.returns
returns c = line_steps_rise
