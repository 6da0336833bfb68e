use Rattle.std.proofs.Common.{arith}
use Rattle.plc_base.specs.Fields.{little_four}
use Rattle.plc_base.proofs.Places.{octets_all, little_stands}
use Rattle.plc_base.proofs.fields.little_four_at.Goals as goal

pub returns : goal.returns
unfolding little_four
returns c =
    let fits = octets_all c.args.octets.now (λ k. omega (arith, c.type_inv.octets k)) in
    little_stands 4 c.args.at c.read_u32.result c.args.octets.now (omega arith) fits c.read_u32.ensures
