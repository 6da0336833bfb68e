use Rattle.mesh_header.proofs.Readings.{unit_spelled}
use Rattle.mesh_header.proofs.laws.read_units_are_spelled.Goals as goal

pub returns : goal.returns
returns c = unit_spelled
