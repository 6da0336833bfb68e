-- The equation of the reader, and the laws of its definition.
use Rattle.std.proofs.Common.{arith}
use Rattle.plc_base.specs.Fields.{AreOctets}
use Rattle.plc_base.proofs.Places.{octets_all}
use Rattle.pan_discovery.proofs.Readings.{found_read, one_value, only_read}
use Rattle.pan_discovery.proofs.reading.read_discovery.Goals as goal

pub returns-clause-found : goal.returns-clause-found
returns-clause-found c =
    let fits : AreOctets c.args.octets.now = octets_all c.args.octets.now (λ k. omega (arith, c.type_inv.octets k)) in
    found_read c.args.octets.now c.discovery_of.result fits c.discovery_of.ensures

pub returns-clause-only : goal.returns-clause-only
returns-clause-only c = only_read c.args.octets.now c.discovery_of.result c.discovery_of.ensures

pub returns-clause-one_value : goal.returns-clause-one_value
returns-clause-one_value c = one_value c.args.octets.now
