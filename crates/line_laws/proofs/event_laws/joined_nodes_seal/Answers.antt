-- The law, at its ends.
use Rattle.line_laws.proofs.LaterEnds.{joined_nodes_seal}
use Rattle.line_laws.proofs.event_laws.joined_nodes_seal.Goals as goal

pub returns : goal.returns
returns g c = joined_nodes_seal
