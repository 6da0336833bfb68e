use Rattle.std.proofs.Common.{bit_and, arith}
use Rattle.aes_modes.proofs.LookUps.{zip_const}
use Rattle.line_script.proofs.digits.low.Goals as goal

pub returns : goal.returns
returns c = zip_const bit_and 15 16 c.args.x (omega arith)
