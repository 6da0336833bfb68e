use Rattle.node_rules.proofs.HeardOctets.{unreads_fit}
use Rattle.node_rules.proofs.octet_laws.unreads_are_octets.Goals as goal

pub returns : goal.returns
returns c = unreads_fit
