-- The law, by the ways that events are made.
use Rattle.line_laws.proofs.FurtherSenders.{line_senders_right}
use Rattle.line_laws.proofs.event_laws.line_senders_are_right.Goals as goal

pub returns : goal.returns
returns c = line_senders_right
