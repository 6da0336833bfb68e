use Rattle.mesh_header.proofs.Readings.{hop_less_length}
use Rattle.mesh_header.proofs.laws.one_hop_less_is_no_longer.Goals as goal

pub returns : goal.returns
returns c = hop_less_length
