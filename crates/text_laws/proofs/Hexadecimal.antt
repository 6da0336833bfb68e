-- What is read as octets is their digits, of either case.
use Rattle.std.proofs.Common.{◌≡◌, inl, inr, ℕ, ◌+◌, ◌*◌, ◌/◌, ◌%◌, ◌<◌, ◌==◌, ◌&&◌, Bool, true, false, not, List, [], ◌∷◌, map, length, get_or, slice_index}
use Rattle.std.proofs.Common.{Option}
use Rattle.std.proofs.Common.{Some, None, is_some, Result, Ok, Err, refl, sym, ap, subst, ◌∙◌, arith}
use Rattle.std.specs.Prelude.{IfSome, IfOk, nat_lt, nat_le, if◌then◌else◌}
use Rattle.std.specs.Char.{to_ascii_lowercase}
use Rattle.std.specs.List.{list_all, range_with_len}
use Rattle.std.specs.Result.{result_ok}
use Rattle.std.proofs.lemmas.Bool.{ltb-true, eqb-true, and_parts, not-true}
use Rattle.std.proofs.lemmas.List.{length-map}
use Rattle.std.proofs.lemmas.List.FromFn.{get_or-map-range_with_len}
use Rattle.hex.specs.Hex.{decode_of, decode_pairs, digit_or_error, encode_lower, encode_with, hex_digit_value, is_hex_digit, lower_digits, pair_value, value_at}
use Rattle.hex.specs.Hex.{◌>>=◌}
use Rattle.hex.specs.declared.error.FromHexError.{FromHexError}
use Rattle.hex.specs.declared.error.FromHexError.TheVariants.{OddLength}
use Rattle.line_script.specs.Words as words
use Rattle.line_script.specs.Words.{eui, sixteen_octets, hex_octets}
use Rattle.line_script.proofs.WordsRead.{IsWord}
use Rattle.text_laws.specs.LowerCase.{lower_word}
use Rattle.text_laws.proofs.Letters.{in_lower_case, same_if}
use Rattle.text_laws.proofs.Words.{IsReader, IsSpelled, if_then, if_so}

ok_then : {A B : Type 0} (P : A → Type 0) (Q : B → Type 0) (r : Result A FromHexError) (f : A → Result B FromHexError) → IfOk r P
    → ((a : A) → P a → IfOk (f a) Q) → IfOk (r >>= f) Q
ok_then P Q (Ok a) f is all = all a is
ok_then P Q (Err e) f is all = tt

-- # Digits

-- whether a digit of this value is the lower case one in lower case
abbrev passes : ℕ → Option ℕ → Bool
passes c None = true
passes c (Some v) = not (c == 32) && (nat_lt v 16 && (to_ascii_lowercase c == slice_index lower_digits v))

all_pass : map (λ (c : ℕ). passes c (hex_digit_value c)) (range_with_len 0 128) ≡ map (λ (c : ℕ). true) (range_with_len 0 128)
all_pass = refl

pass : (c : ℕ) → c < 128 → passes c (hex_digit_value c) ≡ true
pass c low =
    sym (get_or-map-range_with_len (λ (c : ℕ). passes c (hex_digit_value c)) 0 128 c c false low (omega arith))
    ∙ ap (λ (xs : List Bool). get_or xs c false) all_pass
    ∙ get_or-map-range_with_len (λ (c : ℕ). true) 0 128 c c false low (omega arith)

digit_low : (c v : ℕ) → hex_digit_value c ≡ Some v → c < 128
digit_low c v is = grind (arith)

abbrev IsDigitOf : ℕ → ℕ → Type 0
IsDigitOf c v = ((c == 32) ≡ false) × (is_hex_digit c ≡ true) × (v < 16) × (to_ascii_lowercase c ≡ slice_index lower_digits v)

digit_by : (c : ℕ) (o : Option ℕ) → hex_digit_value c ≡ o → IfSome o (IsDigitOf c)
digit_by c None is = tt
digit_by c (Some v) is =
    let whole : passes c (Some v) ≡ true = ap (passes c) (sym is) ∙ pass c (digit_low c v is) in
    let word = and_parts (not (c == 32)) (nat_lt v 16 && (to_ascii_lowercase c == slice_index lower_digits v)) whole in
    let digit = and_parts (nat_lt v 16) (to_ascii_lowercase c == slice_index lower_digits v) word.1 in
    (not-true (c == 32) word.0, ap is_some is, ltb-true v 16 digit.0, eqb-true (to_ascii_lowercase c) (slice_index lower_digits v) digit.1)

value_by : (c i : ℕ) (o : Option ℕ) → IfSome o (IsDigitOf c) → IfOk (digit_or_error c i o) (IsDigitOf c)
value_by c i None is = tt
value_by c i (Some v) is = is

value_is : (c i : ℕ) → IfOk (value_at c i) (IsDigitOf c)
value_is c i = value_by c i (hex_digit_value c) (digit_by c (hex_digit_value c) refl)

-- # Pairs

-- the words whose digits are those of some octets, in either case
abbrev AreDigitsOf : List ℕ → List ℕ → Type 0
AreDigitsOf word octets = IsWord word × (list_all is_hex_digit word ≡ true) × (map to_ascii_lowercase word ≡ encode_lower octets)

abbrev IsPairOf : ℕ → ℕ → ℕ → Type 0
IsPairOf a b octet = IsDigitOf a (octet / 16) × IsDigitOf b (octet % 16)

pair_from : (a b h l : ℕ) → IsDigitOf a h → IsDigitOf b l → IsPairOf a b (h * 16 + l)
pair_from a b h l ih il =
    let high : h ≡ (h * 16 + l) / 16 = omega (arith, ih.2, il.2) in
    let low : l ≡ (h * 16 + l) % 16 = omega (arith, ih.2, il.2) in
    (subst (λ (v : ℕ). IsDigitOf a v) high ih, subst (λ (v : ℕ). IsDigitOf b v) low il)

pair_is : (a b i : ℕ) → IfOk (pair_value a b i) (IsPairOf a b)
pair_is a b i =
    ok_then (IsDigitOf a) (IsPairOf a b) (value_at a i) _ (value_is a i)
    (λ h ih. ok_then (IsDigitOf b) (IsPairOf a b) (value_at b (i + 1)) _ (value_is b (i + 1)) (λ l il. pair_from a b h l ih il))

one_more : (a b octet : ℕ) (s octets : List ℕ) → IsPairOf a b octet → AreDigitsOf s octets → AreDigitsOf (a ∷ b ∷ s) (octet ∷ octets)
unfolding encode_with
one_more a b octet s octets is are = (
  (is.0.0, (is.1.0, are.0)),
  (λ i. is.0.1 i && (is.1.1 i && are.1 i)),
  (λ i. is.0.3 i ∷ is.1.3 i ∷ are.2 i),
)

pairs_are : (i : ℕ) (s : List ℕ) → IfOk (decode_pairs i s) (AreDigitsOf s)
unfolding decode_pairs encode_with
pairs_are i [] = (tt, refl, refl)
pairs_are i (a ∷ []) = tt
pairs_are i (a ∷ b ∷ s) =
    ok_then (IsPairOf a b) (AreDigitsOf (a ∷ b ∷ s)) (pair_value a b i) _ (pair_is a b i)
    (λ octet is. ok_then (AreDigitsOf s) (AreDigitsOf (a ∷ b ∷ s)) (decode_pairs (i + 2) s) _ (pairs_are (i + 2) s)
    (λ octets are. one_more a b octet s octets is are))

-- # Words

decode_by : (word : List ℕ) (odd : Bool) → IfOk (if odd then Err OddLength else decode_pairs 0 word) (AreDigitsOf word)
decode_by word true = tt
decode_by word false = pairs_are 0 word

some_by : (word : List ℕ) (r : Result (List ℕ) FromHexError) → IfOk r (AreDigitsOf word) → IfSome (result_ok r) (λ octets. IsSpelled word (encode_lower octets))
unfolding lower_word
some_by word (Ok octets) are = (are.0, (λ i. if are.1 i then map to_ascii_lowercase word else word) ∙ are.2)
some_by word (Err e) are = tt

decoded : (word : List ℕ) → IfSome (result_ok (decode_of word)) (λ octets. IsSpelled word (encode_lower octets))
decoded word = some_by word (decode_of word) (decode_by word (length word % 2 == 1))

-- # The case of digits

low_values : map (λ (c : ℕ). hex_digit_value (to_ascii_lowercase c)) (range_with_len 0 128) ≡ map hex_digit_value (range_with_len 0 128)
low_values = refl

value_low : (c : ℕ) → c < 128 → hex_digit_value (to_ascii_lowercase c) ≡ hex_digit_value c
value_low c low =
    sym (get_or-map-range_with_len (λ (c : ℕ). hex_digit_value (to_ascii_lowercase c)) 0 128 c c None low (omega arith))
    ∙ ap (λ (os : List (Option ℕ)). get_or os c None) low_values
    ∙ get_or-map-range_with_len hex_digit_value 0 128 c c None low (omega arith)

same_value : (c : ℕ) → hex_digit_value (to_ascii_lowercase c) ≡ hex_digit_value c
same_value c =
    elim (in_lower_case c) [
      | inl same ↦ ap hex_digit_value same
      | inr is ↦ value_low c (omega (arith, is.1))
    ]

same_or_error : (b c i : ℕ) (o : Option ℕ) → is_some o ≡ true → digit_or_error b i o ≡ digit_or_error c i o
same_or_error b c i (Some v) is = refl
same_or_error b c i None is = absurd (cc is)

same_digit : (c i : ℕ) → is_hex_digit c ≡ true → value_at (to_ascii_lowercase c) i ≡ value_at c i
same_digit c i is = ap (digit_or_error (to_ascii_lowercase c) i) (same_value c) ∙ same_or_error (to_ascii_lowercase c) c i (hex_digit_value c) is

same_pairs : (i : ℕ) (s : List ℕ) → list_all is_hex_digit s ≡ true → decode_pairs i (map to_ascii_lowercase s) ≡ decode_pairs i s
unfolding decode_pairs
same_pairs i [] are = refl
same_pairs i (a ∷ []) are = refl
same_pairs i (a ∷ b ∷ s) are =
    let first = and_parts (is_hex_digit a) (list_all is_hex_digit (b ∷ s)) are in
    let second = and_parts (is_hex_digit b) (list_all is_hex_digit s) first.1 in
    λ k. (same_digit a i first.0 k >>= λ h. same_digit b (i + 1) second.0 k >>= λ l. Ok (h * 16 + l)) >>= λ octet. same_pairs (i + 2) s second.1 k
    >>= λ octets. Ok (octet ∷ octets)

same_decoded : (word : List ℕ) → list_all is_hex_digit word ≡ true → decode_of (map to_ascii_lowercase word) ≡ decode_of word
same_decoded word are = λ i. if length-map word to_ascii_lowercase i % 2 == 1 then Err OddLength else same_pairs 0 word are i

-- a word of hexadecimal digits is one in lower case too
pub lower_digits_are : (word : List ℕ) → list_all is_hex_digit word ≡ true → list_all is_hex_digit (map to_ascii_lowercase word) ≡ true
lower_digits_are [] are = refl
lower_digits_are (c ∷ cs) are =
    let parts = and_parts (is_hex_digit c) (list_all is_hex_digit cs) are in
    λ i. (ap is_some (same_value c) ∙ parts.0) i && lower_digits_are cs parts.1 i

-- # Readers

abbrev read_if : (ℕ → Bool) → List ℕ → Option (List ℕ)
read_if fits word = if fits (length word) then result_ok (decode_of word) else None

-- what reads the octets of words of some lengths
if_reader : (fits : ℕ → Bool) → IsReader (read_if fits) encode_lower
unfolding lower_word
if_reader fits = record {
  spells = λ word. if_so (λ octets. IsSpelled word (encode_lower octets)) (fits (length word)) (result_ok (decode_of word)) (decoded word);
  same = λ word. same_if (read_if fits) _ (map to_ascii_lowercase word) word
      (λ are i. if fits (length-map word to_ascii_lowercase i) then result_ok (same_decoded word are i) else None);
}

pub sixteen_reader : IsReader sixteen_octets encode_lower
unfolding sixteen_octets
sixteen_reader = if_reader (λ long. long == 32)

pub hex_reader : IsReader hex_octets encode_lower
unfolding hex_octets
hex_reader = if_reader (λ long. nat_lt 0 long && nat_le long 4096)

eight : IsReader (read_if (λ long. long == 16)) encode_lower
eight = if_reader (λ long. long == 16)

pub eui_reader : IsReader eui (λ who. encode_lower who.0)
unfolding eui
eui_reader = record {
  spells = λ word.
      if_then (λ octets. IsSpelled word (encode_lower octets)) (λ who. IsSpelled word (encode_lower who.0)) (read_if (λ long. long == 16) word) _
      (eight.spells word) (λ octets is. is);
  same = λ word i. words.◌>>=◌ (eight.same word i) (λ octets. Some (record { 0 = octets }));
}
