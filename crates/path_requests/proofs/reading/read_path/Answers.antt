use Rattle.std.proofs.Common.{arith}
use Rattle.plc_base.specs.Fields.{AreOctets}
use Rattle.plc_base.proofs.Places.{octets_all}
use Rattle.path_requests.proofs.Readings.{found_read, one_value, only_read}
use Rattle.path_requests.proofs.reading.read_path.Goals as goal

pub returns-clause-found : goal.returns-clause-found
returns-clause-found c =
    let fits : AreOctets c.args.octets.now = octets_all c.args.octets.now (λ k. omega (arith, c.type_inv.octets k)) in
    found_read c.args.octets.now c.path_of.result fits c.path_of.ensures

pub returns-clause-only : goal.returns-clause-only
returns-clause-only c = only_read c.args.octets.now c.path_of.result c.path_of.ensures

pub returns-clause-one_value : goal.returns-clause-one_value
returns-clause-one_value c = one_value c.args.octets.now
