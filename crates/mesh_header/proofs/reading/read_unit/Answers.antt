use Rattle.std.proofs.Common.{sym, ◌∙◌}
use Rattle.mesh_header.proofs.Values.{one_value, only_read}
use Rattle.mesh_header.proofs.Readings.{length_read, value_read}
use Rattle.mesh_header.proofs.reading.read_unit.Goals as goal

pub returns-clause-only : goal.returns-clause-only
returns-clause-only c = only_read c.args.octets.now c.unit_of.result c.unit_of.ensures.found c.unit_of.ensures.exact

pub returns-clause-one_value : goal.returns-clause-one_value
returns-clause-one_value c = λ a b left right. one_value a b left.0 right.0 (sym left.1 ∙ right.1)

pub returns-clause-value : goal.returns-clause-value
returns-clause-value c = value_read c.args.octets.now c.unit_of.result c.unit_of.ensures.found c.unit_of.ensures.exact

pub returns-clause-length : goal.returns-clause-length
returns-clause-length c = length_read c.args.octets.now c.unit_of.result c.unit_of.ensures.found
