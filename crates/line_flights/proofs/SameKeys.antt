-- Keys that are compared as numbers.
use Rattle.std.proofs.Common.{◌≡◌, ℕ, ◌<◌, ◌==◌, List, length, All, sym, ap, ◌∙◌}
use Rattle.std.specs.Bool.{one_answer}
use Rattle.std.specs.Str.{bytes_eq}
use Rattle.std.specs.Cmp.Lexicographic.{bytes_decides}
use Rattle.std.proofs.lemmas.Bool.{eqb-true, eq-eqb}
use Rattle.byteorder.specs.Endian.{big_bytes, big_number}
use Rattle.plc_base.proofs.NumbersOfOctets.{bytes_high_first-big_from}

-- octets of one length are the same where their numbers are
pub same_by_number : (n : ℕ) (a b : List ℕ) → length a ≡ n → length b ≡ n → All (λ x. x < 256) a → All (λ x. x < 256) b
    → (big_number n a == big_number n b) ≡ bytes_eq a b
same_by_number n a b p q fa fb =
    one_answer (big_number n a == big_number n b) (bytes_eq a b) (
      λ e. sym (bytes_high_first-big_from n a p fa) ∙ ap (big_bytes n) (eqb-true (big_number n a) (big_number n b) e) ∙ bytes_high_first-big_from n b q fb,
      λ e. eq-eqb (big_number n a) (big_number n b) (ap (λ (xs : List ℕ). big_number n xs) e),
    )
    (bytes_decides a b)
