use Rattle.std.proofs.Common.{arith}
use Rattle.std.proofs.lemmas.Grind.{common_steps}
use Rattle.line_capture.proofs.KeyLines.{key_step}
use Rattle.line_capture.proofs.keys.keys_text.Goals as goal

pub loop-place-preserved : goal.loop-place-preserved
loop-place-preserved c = grind (arith, common_steps, key_step c.args.keys.now c.loop-place.place (omega arith))
