use Rattle.std.proofs.Common.{ℕ, ◌-◌, ◌<◌, ◌≤◌, ◌%◌, List, [], ◌∷◌, ap, ◌∙◌, arith}
use Rattle.aes_modes.specs.Sliced.{octet, octet_at}
use Rattle.aes_modes.proofs.Written.{spelled}
use Rattle.aes_modes.proofs.sliced.two_columns_before.Goals as goal

pub returns-clause-inside : goal.returns-clause-inside
returns-clause-inside c = λ (p : ℕ) (low : p < 32) (h : 4 ≤ p % 8).
    (λ i. octet (c.two_columns_before_word.ensures.inside p low h i ∷ c.two_columns_before_word-2.ensures.inside p low h i
    ∷ c.two_columns_before_word-3.ensures.inside p low h i ∷ c.two_columns_before_word-4.ensures.inside p low h i
    ∷ c.two_columns_before_word-5.ensures.inside p low h i
    ∷ c.two_columns_before_word-6.ensures.inside p low h i ∷ c.two_columns_before_word-7.ensures.inside p low h i
    ∷ c.two_columns_before_word-8.ensures.inside p low h i
    ∷ []))
    ∙ ap (λ (q : List ℕ). octet_at q (p - 4)) (spelled 8 c.args.q (omega arith))

pub returns-clause-outside : goal.returns-clause-outside
returns-clause-outside c = λ (p : ℕ) (low : p < 32) (h : p % 8 < 4).
    λ i. octet (c.two_columns_before_word.ensures.outside p low h i ∷ c.two_columns_before_word-2.ensures.outside p low h i
    ∷ c.two_columns_before_word-3.ensures.outside p low h i ∷ c.two_columns_before_word-4.ensures.outside p low h i
    ∷ c.two_columns_before_word-5.ensures.outside p low h i
    ∷ c.two_columns_before_word-6.ensures.outside p low h i ∷ c.two_columns_before_word-7.ensures.outside p low h i
    ∷ c.two_columns_before_word-8.ensures.outside p low h i
    ∷ [])
