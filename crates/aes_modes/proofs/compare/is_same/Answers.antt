use Rattle.std.proofs.Common.{arith}
use Rattle.aes_modes.proofs.Same.{same_by_mask}
use Rattle.aes_modes.proofs.compare.is_same.Goals as goal

pub returns : goal.returns
returns c = same_by_mask c.args.a.now c.args.b.now (omega arith) (omega arith)
