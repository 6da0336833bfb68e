-- Texts within a line: what has no line feed.
use Rattle.std.proofs.Common.{◌≡◌, ℕ, zero, suc, ◌+◌, ◌/◌, ◌%◌, ◌<◌, ◌==◌, ◌&&◌, Bool, true, false, not, List, [], ◌∷◌, ◌++◌, slice_index, if◌then◌else◌, refl}
use Rattle.std.proofs.Common.{subst, sym, arith}
use Rattle.std.specs.List.{list_all}
use Rattle.std.specs.Fmt.{decimal, digits, digits_onto, digit_glyph}
use Rattle.std.proofs.lemmas.Bool.{lt-ltb, ne_eqb}
use Rattle.hex.specs.Hex.{encode_lower, encode_with, lower_digits}

abbrev pub IsInside : List ℕ → Type 0
IsInside [] = Unit {0}
IsInside (c ∷ cs) = ((c == 10) ≡ false) × IsInside cs

abbrev pub is_inside : List ℕ → Bool
is_inside text = list_all (λ c. not (c == 10)) text

inside_by : (b : Bool) (c : ℕ) (cs : List ℕ) → (c == 10) ≡ b → (not b && is_inside cs) ≡ true
    → (is_inside cs ≡ true → IsInside cs) → IsInside (c ∷ cs)
inside_by false c cs is all more = (is, more all)
inside_by true c cs is all more = absurd (let no : false ≡ true → ⊥ = λ e. cc in no all)

-- a word is within a line where its test says so
pub inside : (text : List ℕ) → is_inside text ≡ true → IsInside text
inside [] all = tt
inside (c ∷ cs) all = inside_by (c == 10) c cs refl all (inside cs)

pub joined : (a b : List ℕ) → IsInside a → IsInside b → IsInside (a ++ b)
joined [] b ia ib = ib
joined (c ∷ cs) b ia ib = (ia.0, joined cs b ia.1 ib)

-- ---- numbers in decimal

choice : (P : List ℕ → Type 0) (b : Bool) (x y : List ℕ) → P x → P y → P (if b then x else y)
choice P true x y is other = is
choice P false x y is other = other

glyph_is : (d : ℕ) → d < 10 → digit_glyph false d ≡ 48 + d
glyph_is d low = rw (lt-ltb d 10 low) refl

module _ (P : List ℕ → Type 0) (more : (d : ℕ) (acc : List ℕ) → d < 10 → P acc → P ((48 + d) ∷ acc)) where
  onto_has : (k n : ℕ) (acc : List ℕ) → P acc → P (digits_onto k 10 false n acc)
  onto_has zero n acc is = is
  onto_has (suc k) n acc is =
      let digit : n % 10 < 10 = omega arith in
      let first = digit_glyph false (n % 10) ∷ acc in
      let has : P first = subst (λ c. P (c ∷ acc)) (sym (glyph_is (n % 10) digit)) (more (n % 10) acc digit is) in
      choice P (n / 10 == 0) first (digits_onto k 10 false (n / 10) first) has (onto_has k (n / 10) first has)

  -- what holds of each single digit, and of one more digit in front, holds of a number in decimal
  pub decimal_has : ((d : ℕ) → d < 10 → P ((48 + d) ∷ [])) → (n : ℕ) → P (decimal n)
  unfolding digits
  decimal_has one n =
      let digit : n % 10 < 10 = omega arith in
      let first = digit_glyph false (n % 10) ∷ [] in
      let has : P first = subst (λ c. P (c ∷ [])) (sym (glyph_is (n % 10) digit)) (one (n % 10) digit) in
      choice P (n / 10 == 0) first (digits_onto 63 10 false (n / 10) first) has (onto_has 63 (n / 10) first has)

digit_inside : (d : ℕ) (acc : List ℕ) → d < 10 → IsInside acc → IsInside ((48 + d) ∷ acc)
digit_inside d acc digit is = (ne_eqb (48 + d) 10 (λ e. omega (arith, e)), is)

pub decimal_inside : (n : ℕ) → IsInside (decimal n)
decimal_inside n = decimal_has IsInside digit_inside (λ d digit. digit_inside d [] digit tt) n

-- ---- octets in hexadecimal

digit_at : (t : List ℕ) (i : ℕ) → IsInside t → (slice_index t i == 10) ≡ false
digit_at [] i is = refl
digit_at (c ∷ cs) zero is = is.0
digit_at (c ∷ cs) (suc i) is = digit_at cs i is.1

pub hex_inside : (octets : List ℕ) → IsInside (encode_lower octets)
unfolding encode_with
hex_inside [] = tt
hex_inside (x ∷ xs) =
    let digits : IsInside lower_digits = inside lower_digits refl in
    (digit_at lower_digits (x / 16) digits, (digit_at lower_digits (x % 16) digits, hex_inside xs))
