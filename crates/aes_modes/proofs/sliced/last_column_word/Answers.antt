use Rattle.std.proofs.Common.{ℕ, ◌<◌, ◌%◌, refl, ap, ◌∙◌, arith}
use Rattle.std.specs.Int.{bit_at}
use Rattle.aes_modes.proofs.Words.{turned_right_at}
use Rattle.aes_modes.proofs.SlicedSchedule.{last_in, last_out}
use Rattle.aes_modes.proofs.sliced.last_column_word.Goals as goal

pub returns-clause-inside : goal.returns-clause-inside
returns-clause-inside c = λ (p : ℕ) (low : p < 32) (h : p % 8 < 2).
    last_in c.args.x c.rotate_right.result p
    (λ (j : ℕ) (l : j < 32). ap (λ (z : ℕ). bit_at z j) c.rotate_right.ensures ∙ turned_right_at c.args.x 14 18 j refl (omega arith) c.ranges.x.fits l) low h

pub returns-clause-outside : goal.returns-clause-outside
returns-clause-outside c = last_out c.rotate_right.result
