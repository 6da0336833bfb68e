use Rattle.mesh_header.proofs.UnitOctets.{read_octets}
use Rattle.mesh_header.proofs.laws.read_units_have_octets.Goals as goal

pub returns : goal.returns
returns c = read_octets
