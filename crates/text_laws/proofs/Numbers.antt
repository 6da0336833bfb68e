-- What is read as a number is its decimal.
use Rattle.std.proofs.Common.{◌≡◌, ℕ, ◌+◌, ◌*◌, ◌-◌, ◌<◌, ◌==◌, ◌&&◌, inl, inr, Bool, true, false, List, [], ◌∷◌, map, length, get_or, Some, None, refl, sym}
use Rattle.std.proofs.Common.{ap, ◌∙◌}
use Rattle.std.proofs.Common.{arith}
use Rattle.std.specs.Prelude.{IfSome, nat_lt, nat_le, if◌then◌else◌}
use Rattle.std.specs.Char.{digit_value, to_ascii_lowercase}
use Rattle.std.specs.Fmt.{decimal}
use Rattle.std.specs.Int.{IsInRange}
use Rattle.std.specs.Str.Parse.{AllDigits, digits_value_after}
use Rattle.std.proofs.lemmas.Bool.{ltb-false, lt-ltb, le-ltb, leb-false, eq-eqb, ne_eqb, both_ways}
use Rattle.std.proofs.lemmas.Option.{IfSome_then}
use Rattle.std.proofs.lemmas.List.{length-map}
use Rattle.std.proofs.lemmas.Fmt.{decimal-digits_value}
use Rattle.std.proofs.lemmas.Str.{digit_value_digit}
use Rattle.std.proofs.lemmas.Str.Parse.{digit_from_value, numerals_by_value, tells_digits}
use Rattle.line_script.specs.Words.{◌>>=◌, digit_more, number_from, number, number_within, cost}
use Rattle.line_script.proofs.WordsRead.{IsWord}
use Rattle.text_laws.specs.LowerCase.{lower_word}
use Rattle.text_laws.proofs.Letters.{in_lower_case, same_if, same_sign}
use Rattle.text_laws.proofs.Words.{IsReader, IsSpelled, if_then}

-- # Digits

abbrev IsDigit : ℕ → ℕ → ℕ → Type 0
IsDigit n c m = IsInRange 48 57 c × (n * 10 + (c - 48) ≡ m) × (m < 4294967296)

digit_by : (n c : ℕ) (low high large : Bool) → nat_lt c 48 ≡ low → nat_lt 57 c ≡ high → nat_le 4294967296 (n * 10 + (c - 48)) ≡ large
    → IfSome (if low then None else if high then None else if large then None else Some (n * 10 + (c - 48))) (IsDigit n c)
digit_by n c true high large is_low is_high is_large = tt
digit_by n c false true large is_low is_high is_large = tt
digit_by n c false false true is_low is_high is_large = tt
digit_by n c false false false is_low is_high is_large =
    ((ltb-false c 48 is_low, ltb-false 57 c is_high), refl, leb-false 4294967296 (n * 10 + (c - 48)) is_large)

digit_is : (n c : ℕ) → IfSome (digit_more n c) (IsDigit n c)
digit_is n c = digit_by n c (nat_lt c 48) (nat_lt 57 c) (nat_le 4294967296 (n * 10 + (c - 48))) refl refl refl

abbrev AreDigits : ℕ → List ℕ → ℕ → Type 0
AreDigits n ds m = AllDigits 10 ds × (digits_value_after 10 n ds ≡ m) × (m < 4294967296)

one_more : (n c m k : ℕ) (cs : List ℕ) → IsDigit n c m → AreDigits m cs k → AreDigits n (c ∷ cs) k
one_more n c m k cs is are =
    let value = digit_value_digit c is.0 in
    let next : n * 10 + digit_value c ≡ m = omega (arith, is.1, value) in
    ((omega (arith, is.0, value), are.0), ap (λ (v : ℕ). digits_value_after 10 v cs) next ∙ are.1, are.2)

digits_are : (n : ℕ) (ds : List ℕ) → n < 4294967296 → IfSome (number_from n ds) (AreDigits n ds)
digits_are n [] room = (tt, refl, room)
digits_are n (c ∷ cs) room =
    if_then (IsDigit n c) (AreDigits n (c ∷ cs)) (digit_more n c) (λ m. number_from m cs) (digit_is n c)
    (λ m is. IfSome_then (number_from m cs) (digits_are m cs is.2) (λ k are. one_more n c m k cs is are))

-- # Words of digits

digits_word : (ds : List ℕ) → AllDigits 10 ds → IsWord ds
digits_word [] are = tt
digits_word (c ∷ cs) are = let range = digit_from_value c are.0 in (ne_eqb c 32 (λ is. omega (arith, is, range)), digits_word cs are.1)

same_digit : (c : ℕ) → IsInRange 48 57 c → to_ascii_lowercase c ≡ c
same_digit c is = rw (lt-ltb c 65 (omega (arith, is))) refl

same_digits : (ds : List ℕ) → AllDigits 10 ds → map to_ascii_lowercase ds ≡ ds
same_digits [] are = refl
same_digits (c ∷ cs) are = λ i. same_digit c (digit_from_value c are.0) i ∷ same_digits cs are.1 i

digits_spelled : (ds : List ℕ) → AllDigits 10 ds → IsSpelled ds ds
unfolding lower_word
digits_spelled ds are = (digits_word ds are, same_if (λ (x : List ℕ). x) _ (map to_ascii_lowercase ds) ds (λ is. same_digits ds are))

-- # Numbers

decimal_is : (ds : List ℕ) (n : ℕ) → 0 < length ds → (get_or ds 0 0 ≡ 48 → length ds ≡ 1) → AreDigits 0 ds n → decimal n ≡ ds
decimal_is ds n some lone are =
    ap decimal (sym are.1) ∙ decimal-digits_value (numerals_by_value (AllDigits 10) tells_digits) ds are.0 some lone (omega (arith, are.1, are.2))

spelled : (c : ℕ) (cs : List ℕ) → (c ≡ 48 → length (c ∷ cs) ≡ 1) → IfSome (number_from 0 (c ∷ cs)) (λ n. IsSpelled (c ∷ cs) (decimal n))
spelled c cs lone =
    IfSome_then (number_from 0 (c ∷ cs)) (digits_are 0 (c ∷ cs) (omega arith))
    (λ n are. let plain = digits_spelled (c ∷ cs) are.0 in (plain.0, plain.1 ∙ sym (decimal_is (c ∷ cs) n (omega arith) lone are)))

number_by : (c : ℕ) (cs : List ℕ) (zero more : Bool) → (c == 48) ≡ zero → nat_lt 0 (length cs) ≡ more
    → IfSome (if zero && more then None else number_from 0 (c ∷ cs)) (λ n. IsSpelled (c ∷ cs) (decimal n))
number_by c cs true true is_zero is_more = tt
number_by c cs true false is_zero is_more = spelled c cs (λ is. omega (arith, ltb-false 0 (length cs) is_more))
number_by c cs false more is_zero is_more = spelled c cs (λ is. absurd (both_ways (c == 48) is_zero (eq-eqb c 48 is)))

-- what is read as a number is its decimal
number_spelled : (word : List ℕ) → IfSome (number word) (λ n. IsSpelled word (decimal n))
unfolding number
number_spelled [] = tt
number_spelled (c ∷ cs) = number_by c cs (c == 48) (nat_lt 0 (length cs)) refl refl

-- # Letters

no_digit : (n c : ℕ) → 57 < c → digit_more n c ≡ None
no_digit n c above = rw (le-ltb c 48 (omega (arith, above)), lt-ltb 57 c above) refl

same_more : (n c : ℕ) → digit_more n (to_ascii_lowercase c) ≡ digit_more n c
same_more n c =
    elim (in_lower_case c) [
      | inl same ↦ ap (digit_more n) same
      | inr is ↦ ap (digit_more n) is.2 ∙ no_digit n (c + 32) (omega (arith, is.0)) ∙ sym (no_digit n c (omega (arith, is.0)))
    ]

same_from : (n : ℕ) (ds : List ℕ) → number_from n (map to_ascii_lowercase ds) ≡ number_from n ds
same_from n [] = refl
same_from n (c ∷ cs) = λ i. same_more n c i >>= λ m. same_from m cs i

same_letters : (word : List ℕ) → number (map to_ascii_lowercase word) ≡ number word
unfolding number
same_letters [] = refl
same_letters (c ∷ cs) =
    λ i. if same_sign 48 c (omega arith) i && nat_lt 0 (length-map cs to_ascii_lowercase i) then None else same_from 0 (c ∷ cs) i

number_same : (word : List ℕ) → number (lower_word word) ≡ number word
unfolding lower_word
number_same word = same_if number _ (map to_ascii_lowercase word) word (λ is. same_letters word)

-- # Readers

pub number_reader : IsReader number decimal
number_reader = record { spells = number_spelled; same = number_same }

within_by : (word : List ℕ) (n : ℕ) (under over : Bool) → IsSpelled word (decimal n)
    → IfSome (if under then None else if over then None else Some n) (λ m. IsSpelled word (decimal m))
within_by word n true over is = tt
within_by word n false true is = tt
within_by word n false false is = is

within_spelled : (low high : ℕ) (word : List ℕ) → IfSome (number_within low high word) (λ n. IsSpelled word (decimal n))
unfolding number_within
within_spelled low high word =
    if_then (λ n. IsSpelled word (decimal n)) (λ n. IsSpelled word (decimal n)) (number word) _ (number_spelled word)
    (λ n is. within_by word n (nat_lt n low) (nat_lt high n) is)

within_same : (low high : ℕ) (word : List ℕ) → number_within low high (lower_word word) ≡ number_within low high word
unfolding number_within
within_same low high word = λ i. number_same word i >>= λ n. if nat_lt n low then None else if nat_lt high n then None else Some n

pub within_reader : (low high : ℕ) → IsReader (number_within low high) decimal
within_reader low high = record { spells = within_spelled low high; same = within_same low high }

pub cost_reader : IsReader cost decimal
unfolding cost
cost_reader = record { spells = within_spelled 1 255; same = within_same 1 255 }
