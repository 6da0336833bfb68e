-- The law, by the ways that events are made.
use Rattle.line_laws.proofs.FurtherLive.{line_nodes_accept_once}
use Rattle.line_laws.proofs.event_laws.line_nodes_accept_once.Goals as goal

pub returns : goal.returns
returns c = line_nodes_accept_once
