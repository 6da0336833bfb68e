use Rattle.std.proofs.Common.{arith}
use Rattle.eap_psk.proofs.Blocks.{with_number_is}
use Rattle.eap_psk.proofs.keys.with_number.Goals as goal

pub returns : goal.returns
returns c = with_number_is c.args.block.now c.args.number (omega arith)
