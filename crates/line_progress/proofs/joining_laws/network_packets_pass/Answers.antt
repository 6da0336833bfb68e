-- The law: each packet is taken as the laws of EAP-PSK say.
use Rattle.line_progress.proofs.NetworkPackets.{packets_pass}
use Rattle.line_progress.proofs.joining_laws.network_packets_pass.Goals as goal

pub returns : goal.returns
returns c = packets_pass
