use Rattle.node_rules.proofs.NetworkOpens.{network_opens_again}
use Rattle.node_rules.proofs.octet_laws.the_network_opens_what_it_seals.Goals as goal

pub returns : goal.returns
returns c = network_opens_again
