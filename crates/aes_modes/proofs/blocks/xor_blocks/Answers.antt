use Rattle.std.proofs.Common.{arith}
use Rattle.aes_modes.proofs.Written.{xor_blocks_is}
use Rattle.aes_modes.proofs.blocks.xor_blocks.Goals as goal

pub returns : goal.returns
returns c = xor_blocks_is c.args.a.now c.args.b.now (omega arith) (omega arith)
