-- The law, by the form of what each node does.
use Rattle.line_laws.proofs.FurtherLines.{discovery_keeps}
use Rattle.line_laws.proofs.event_laws.discovery_keeps_the_line.Goals as goal

pub returns : goal.returns
returns c = discovery_keeps
