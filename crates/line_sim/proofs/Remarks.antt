-- The time of a remark is the one with which it was written.
use Rattle.std.proofs.Common.{◌≡◌, ℕ, ◌+◌, ◌-◌, ◌*◌, ◌/◌, ◌%◌, ◌^◌, ◌<◌, ◌≤◌, List, [], ◌∷◌, ◌++◌, Some, ◌∙◌, ap, append_assoc, arith, codes}
use Rattle.std.specs.Prelude.{decimal}
use Rattle.std.proofs.lemmas.Bool.{ne_eqb}
use Rattle.std.proofs.lemmas.Fmt.{decimal_by_steps, decimal_digit}
use Rattle.line_sim.specs.Times.{number_on, remarked, remark_line, Remarked}

-- one digit more
digit_on : (n d : ℕ) (rest : List ℕ) → d < 10 → number_on n ((48 + d) ∷ rest) ≡ number_on (n * 10 + d) rest
digit_on n d rest small =
    rw (ne_eqb (48 + d) 32 (λ e. omega arith), ne_eqb (48 + d) 46 (λ e. omega arith)) (ap (λ (m : ℕ). number_on (n * 10 + m) rest) (the_digit))
  where
    the_digit : 48 + d - 48 ≡ d
    the_digit = omega arith

abbrev Reads : ℕ → List ℕ → Type 0
Reads n ds = (rest : List ℕ) → number_on 0 (ds ++ rest) ≡ number_on n rest

reads_one : (n : ℕ) → n < 10 → Reads n ((48 + n) ∷ [])
reads_one n small = λ rest. digit_on 0 n rest small ∙ ap (λ (m : ℕ). number_on m rest) (plain)
  where
    plain : 0 * 10 + n ≡ n
    plain = omega arith

reads_more : (n : ℕ) (ds : List ℕ) → 10 ≤ n → Reads (n / 10) ds → Reads n (ds ++ ((48 + n % 10) ∷ []))
reads_more n ds large reads = λ rest.
    ap (number_on 0) (append_assoc ds ((48 + n % 10) ∷ []) rest) ∙ reads ((48 + n % 10) ∷ rest) ∙ digit_on (n / 10) (n % 10) rest (omega arith)
    ∙ ap (λ (m : ℕ). number_on m rest) (whole)
  where
    whole : n / 10 * 10 + n % 10 ≡ n
    whole = omega arith

reads_decimal : (n : ℕ) → n < 2 ^ 64 → Reads n (decimal n)
reads_decimal n small = decimal_by_steps Reads reads_one reads_more n small

-- a digit that is written alone
reads_digit : (n d : ℕ) (rest : List ℕ) → d < 10 → number_on n (decimal d ++ rest) ≡ number_on (n * 10 + d) rest
reads_digit n d rest small = ap (λ (ds : List ℕ). number_on n (ds ++ rest)) (decimal_digit d small) ∙ digit_on n d rest small

-- what is read of a remark that was written
pub remark_says : (at : ℕ) (text : List ℕ) → at < 2 ^ 64 → remarked (remark_line at text) ≡ Some (Remarked at)
remark_says at text small = ap (λ (n : ℕ). Some (Remarked n))
    (reads_decimal (at / 1000) (omega arith) (codes "." ++ (decimal (at / 100 % 10) ++ (decimal (at / 10 % 10) ++ (decimal (at % 10) ++ (codes " " ++ text)))))
    ∙ reads_digit (at / 1000) (at / 100 % 10) (decimal (at / 10 % 10) ++ (decimal (at % 10) ++ (codes " " ++ text))) (omega arith)
    ∙ reads_digit (at / 1000 * 10 + at / 100 % 10) (at / 10 % 10) (decimal (at % 10) ++ (codes " " ++ text)) (omega arith)
    ∙ reads_digit ((at / 1000 * 10 + at / 100 % 10) * 10 + at / 10 % 10) (at % 10) (codes " " ++ text) (omega arith)
    ∙ the_number)
  where
    the_number : ((at / 1000 * 10 + at / 100 % 10) * 10 + at / 10 % 10) * 10 + at % 10 ≡ at
    the_number = omega arith
