use Rattle.std.proofs.Common.{arith}
use Rattle.plc_base.specs.Fields.{two}
use Rattle.plc_base.proofs.Places.{octets_all, big_stands, two_high}
use Rattle.plc_base.proofs.fields.two_at.Goals as goal

pub returns : goal.returns
unfolding two
returns c =
    let fits = octets_all c.args.octets.now (λ k. omega (arith, c.type_inv.octets k)) in
    let stands = big_stands 2 c.args.at c.read_u16.result c.args.octets.now (omega arith) fits c.read_u16.ensures in
    (stands.0, stands.1, two_high c.args.at c.read_u16.result c.args.octets.now fits stands.0)
