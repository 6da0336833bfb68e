use Rattle.mesh_header.proofs.Readings.{unit_read}
use Rattle.mesh_header.proofs.laws.units_are_read.Goals as goal

pub returns : goal.returns
returns c = unit_read
