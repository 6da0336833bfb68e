use Rattle.node_rules.proofs.NetworkOpens.{arrived_octets, network_opens}
use Rattle.node_rules.proofs.octet_laws.the_network_opens_octets.Goals as goal

pub returns-clause-body : goal.returns-clause-body
returns-clause-body c = arrived_octets

pub returns-clause-payload : goal.returns-clause-payload
returns-clause-payload c = network_opens
