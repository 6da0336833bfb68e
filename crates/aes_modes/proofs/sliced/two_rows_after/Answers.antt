use Rattle.std.proofs.Common.{ℕ, ◌<◌, refl, ap, ◌∙◌, arith}
use Rattle.std.specs.Int.{bit_at}
use Rattle.aes_modes.proofs.Words.{turned_right_at}
use Rattle.aes_modes.proofs.sliced.two_rows_after.Goals as goal

pub returns : goal.returns
returns c = λ (p : ℕ) (low : p < 32). ap (λ (z : ℕ). bit_at z p) c.rotate_right.ensures ∙ turned_right_at c.args.x 16 16 p refl (omega arith)
    c.ranges.x.fits low
