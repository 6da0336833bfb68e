use Rattle.std.proofs.Common.{arith}
use Rattle.aes_modes.proofs.LookUps.{zip_const}
use Rattle.line_script.proofs.digits.high.Goals as goal

pub returns : goal.returns
returns c = zip_const _ 4 16 c.args.x (omega arith)
