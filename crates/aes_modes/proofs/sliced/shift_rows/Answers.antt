use Rattle.std.proofs.Common.{ℕ, ◌<◌, List, [], ◌∷◌, ap, ◌∙◌, arith}
use Rattle.aes_modes.specs.Sliced.{octet, octet_at, shifted_from}
use Rattle.aes_modes.proofs.Written.{spelled}
use Rattle.aes_modes.proofs.sliced.shift_rows.Goals as goal

pub returns : goal.returns
returns c = λ (p : ℕ) (low : p < 32).
    (λ i. octet (c.shift_word.ensures p low i ∷ c.shift_word-2.ensures p low i ∷ c.shift_word-3.ensures p low i ∷ c.shift_word-4.ensures p low i
    ∷ c.shift_word-5.ensures p low i ∷ c.shift_word-6.ensures p low i ∷ c.shift_word-7.ensures p low i ∷ c.shift_word-8.ensures p low i ∷ []))
    ∙ ap (λ (q : List ℕ). octet_at q (shifted_from p)) (spelled 8 c.args.q (omega arith))
