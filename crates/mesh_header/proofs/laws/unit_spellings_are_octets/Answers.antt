use Rattle.mesh_header.proofs.UnitOctets.{spelling_octets}
use Rattle.mesh_header.proofs.laws.unit_spellings_are_octets.Goals as goal

pub returns : goal.returns
returns c = spelling_octets
