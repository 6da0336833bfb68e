-- How hexadecimal text grows.
use Rattle.std.proofs.Common.{◌≡◌, ℕ, ◌+◌, ◌*◌, ◌<◌, ◌≤◌, List, [], ◌∷◌, ◌++◌, length, take, get_or, refl, sym, ap, ◌∙◌, ◌/◌, ◌%◌, arith}
use Rattle.std.proofs.lemmas.List.{take_more, append_assoc, length-append, length-take-le}
use Rattle.hex.specs.Hex.{encode_with, encode_lower, lower_digits}
use Rattle.hex.proofs.HexLemmas.{length-encode_with}

encode_with-append : (t xs ys : List ℕ) → encode_with t (xs ++ ys) ≡ encode_with t xs ++ encode_with t ys
unfolding encode_with
encode_with-append t [] ys = refl
encode_with-append t (x ∷ xs) ys = λ i. get_or t (x / 16) 0 ∷ get_or t (x % 16) 0 ∷ encode_with-append t xs ys i

-- the text of no octet
pub encode_lower-nil : encode_lower [] ≡ []
unfolding encode_with
encode_lower-nil = refl

-- one more octet, after i of xs
pub hex_more : (old text digits new xs : List ℕ) (i : ℕ) → i < length xs → text ≡ old ++ encode_lower (take i xs)
    → digits ≡ encode_lower (get_or xs i 0 ∷ []) → new ≡ text ++ digits → new ≡ old ++ encode_lower (take (i + 1) xs)
hex_more old text digits new xs i low et ed en =
    en ∙ (λ j. et j ++ ed j)
    ∙ append_assoc old (encode_lower (take i xs)) (encode_lower (get_or xs i 0 ∷ []))
    ∙ ap (λ (y : List ℕ). old ++ y)
    (sym (ap encode_lower (take_more xs i 0 low) ∙ encode_with-append lower_digits (take i xs) (get_or xs i 0 ∷ [])))

-- the length of a text after i octets of xs
pub length-hex : (old text xs : List ℕ) (i : ℕ) → i ≤ length xs → text ≡ old ++ encode_lower (take i xs)
    → length text ≡ length old + 2 * i
length-hex old text xs i low et =
    omega (
      arith,
      ap length et,
      length-append old (encode_lower (take i xs)),
      length-encode_with lower_digits (take i xs),
      length-take-le i xs low,
    )
