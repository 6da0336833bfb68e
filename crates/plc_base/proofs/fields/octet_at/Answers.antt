use Rattle.std.proofs.Common.{arith}
use Rattle.plc_base.proofs.Places.{octet_stands}
use Rattle.plc_base.proofs.fields.octet_at.Goals as goal

pub returns : goal.returns
returns c = octet_stands c.args.at c.args.octets.now (omega arith)
