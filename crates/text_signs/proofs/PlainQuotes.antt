-- What a message quotes is printable ASCII, and short.
use Rattle.std.proofs.Common.{◌≡◌, ℕ, zero, suc, ◌*◌, ◌/◌, ◌%◌, ◌<◌, ◌≤◌, min, Bool, true, false, ◌&&◌}
use Rattle.std.proofs.Common.{inl, inr, List, [], ◌∷◌, ◌++◌, length, take, slice_index, refl, arith, All, codes, if◌then◌else◌, nat_lt}
use Rattle.std.proofs.lemmas.Bool.{and_parts, cases_lt}
use Rattle.std.proofs.lemmas.List.{length-append, length-take}
use Rattle.std.proofs.lemmas.List.Elements.{All-append, All-cons, All-head, All-nil, All-tail, All-take}
use Rattle.hex.specs.Hex.{encode_with, lower_digits}
use Rattle.text_signs.specs.Quotes.{IsPlainAndShort, dots, is_printable, octet_text, octets_text, quoted_text}

abbrev Plain : ℕ → Type 0
Plain octet = is_printable octet ≡ true

-- # The digits

abbrev first_plain : ℕ → Bool
first_plain zero = true
first_plain (suc n) = is_printable (slice_index lower_digits n) && first_plain n

plain_at : (n k : ℕ) → first_plain n ≡ true → k < n → Plain (slice_index lower_digits k)
plain_at zero k h lt = absurd (omega arith)
plain_at (suc n) k h lt =
    let parts = and_parts (is_printable (slice_index lower_digits n)) (first_plain n) h in
    elim (cases_lt k n) [
      | inl below ↦ plain_at n k parts.1 below
      | inr top ↦
          let e : k ≡ n = omega arith in
          rw e parts.0
    ]

digit_plain : (k : ℕ) → k < 16 → Plain (slice_index lower_digits k)
digit_plain k lt = plain_at 16 k refl lt

-- # An octet, and some

digits_plain : (octet : ℕ) → octet < 256 → All Plain (encode_with lower_digits (octet ∷ []))
unfolding encode_with
digits_plain octet low =
    All-cons Plain (slice_index lower_digits (octet / 16)) (slice_index lower_digits (octet % 16) ∷ []) (digit_plain (octet / 16) (omega (arith, low)))
    (All-cons Plain (slice_index lower_digits (octet % 16)) [] (digit_plain (octet % 16) (omega arith)) (All-nil Plain))

octet_by : (octet : ℕ) → octet < 256 → (b : Bool) → is_printable octet ≡ b
    → All Plain (if b then octet ∷ [] else codes "\\x" ++ encode_with lower_digits (octet ∷ []))
octet_by octet low true is = All-cons Plain octet [] is (All-nil Plain)
octet_by octet low false is = All-cons Plain 92 (120 ∷ encode_with lower_digits (octet ∷ [])) refl
    (All-cons Plain 120 (encode_with lower_digits (octet ∷ [])) refl (digits_plain octet low))

octets_plain : (octets : List ℕ) → All (λ octet. octet < 256) octets → All Plain (octets_text octets)
octets_plain [] low = (All-nil Plain)
octets_plain (octet ∷ octets) low =
    All-append Plain (octet_text octet) (octets_text octets) (octet_by octet (All-head (λ o. o < 256) octet octets low) (is_printable octet) refl)
    (octets_plain octets (All-tail (λ o. o < 256) octet octets low))

-- # Its length

four : (b : Bool) (octet : ℕ) → length (if b then octet ∷ [] else codes "\\x" ++ encode_with lower_digits (octet ∷ [])) ≤ 4
unfolding encode_with
four true octet = omega arith
four false octet = omega arith

four_each : (octets : List ℕ) → length (octets_text octets) ≤ 4 * length octets
four_each [] = omega arith
four_each (octet ∷ octets) = omega (arith, length-append (octet_text octet) (octets_text octets), four (is_printable octet) octet, four_each octets)

two : (b : Bool) → length (dots b) ≤ 2
two true = omega arith
two false = omega arith

dots_plain : (b : Bool) → All Plain (dots b)
dots_plain true = All-cons Plain 46 (46 ∷ []) refl (All-cons Plain 46 [] refl (All-nil Plain))
dots_plain false = (All-nil Plain)

-- # All of it

pub quoted_plain : (octets : List ℕ) → All (λ octet. octet < 256) octets → IsPlainAndShort (quoted_text octets)
quoted_plain octets low =
    let n : ℕ = min (length octets) 64 in
    let b : Bool = nat_lt 64 (length octets) in (
      All-append Plain (octets_text (take n octets)) (dots b) (octets_plain (take n octets) (All-take (λ o. o < 256) n octets low)) (dots_plain b),
      omega (arith, length-append (octets_text (take n octets)) (dots b), four_each (take n octets), length-take n octets, two b),
    )
