use Rattle.std.proofs.Common.{w8, refl, arith}
use Rattle.std.proofs.lemmas.Simd.{SwzOk-from_Each1}
use Rattle.aes_modes.proofs.LookUps.{look_is}
use Rattle.line_script.proofs.digits.look.Goals as goal

pub swizzle : goal.swizzle
swizzle c = SwzOk-from_Each1 w8 16 1 16 0 c.args.at refl (omega arith) c.requires

pub returns : goal.returns
returns c = look_is c.args.table c.args.at 0 (omega arith)
