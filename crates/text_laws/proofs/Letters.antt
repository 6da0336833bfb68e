-- Octets in lower case.
use Rattle.std.proofs.Common.{◌≡◌, ℕ, ◌+◌, ◌<◌, ◌≤◌, ◌==◌, ◌⊎◌, inl, inr, Bool, true, false, List, [], ◌∷◌, map, refl, sym, ap, ◌∙◌, arith}
use Rattle.std.specs.Prelude.{if◌then◌else◌}
use Rattle.std.specs.Char.{to_ascii_lowercase}
use Rattle.std.proofs.lemmas.Bool.{cases_lt, lt-ltb, le-ltb, ne_eqb}
use Rattle.line_script.proofs.WordsRead.{IsWord}
use Rattle.text_laws.specs.LowerCase.{lower_word}

-- a letter in upper case, with the octet that it is in lower case
abbrev pub IsUpper : ℕ → Type 0
IsUpper c = (65 ≤ c) × (c < 91) × (to_ascii_lowercase c ≡ c + 32)

before : (c : ℕ) → c < 65 → to_ascii_lowercase c ≡ c
before c below = rw (lt-ltb c 65 below) refl

after : (c : ℕ) → 91 ≤ c → to_ascii_lowercase c ≡ c
after c above = rw (le-ltb c 65 (omega (arith, above)), le-ltb c 91 above) refl

upper : (c : ℕ) → 65 ≤ c → c < 91 → to_ascii_lowercase c ≡ c + 32
upper c above below = rw (le-ltb c 65 above, lt-ltb c 91 below) refl

-- only letters in upper case are others in lower case
pub in_lower_case : (c : ℕ) → (to_ascii_lowercase c ≡ c) ⊎ IsUpper c
in_lower_case c =
    elim (cases_lt c 65) [
      | inl below ↦ inl (before c below)
      | inr above ↦
          elim (cases_lt c 91) [
            | inl low ↦ inr (above, low, upper c above low)
            | inr high ↦ inl (after c high)
          ]
    ]

-- no sign before the letters becomes one, or was one
pub same_sign : (k c : ℕ) → k < 65 → (to_ascii_lowercase c == k) ≡ (c == k)
same_sign k c low =
    elim (in_lower_case c) [
      | inl same ↦ ap (λ (x : ℕ). x == k) same
      | inr is ↦
          ap (λ (x : ℕ). x == k) is.2 ∙ ne_eqb (c + 32) k (λ e. omega (arith, e, low, is.0)) ∙ sym (ne_eqb c k (λ e. omega (arith, e, low, is.0)))
    ]

-- # Words in lower case

-- what is the same of a word and of the word in lower case is the same of `lower_word`
pub same_if : {X : Type 0} (f : List ℕ → X) (b : Bool) (v w : List ℕ) → (b ≡ true → f v ≡ f w) → f (if b then v else w) ≡ f w
same_if f true v w same = same refl
same_if f false v w same = refl

lower_letters : (w : List ℕ) → IsWord w → IsWord (map to_ascii_lowercase w)
lower_letters [] is = tt
lower_letters (c ∷ cs) is = (same_sign 32 c (omega arith) ∙ is.0, lower_letters cs is.1)

word_by : (b : Bool) (v w : List ℕ) → IsWord v → IsWord w → IsWord (if b then v else w)
word_by true v w iv iw = iv
word_by false v w iv iw = iw

-- a word in lower case is a word
pub lower_is_word : (w : List ℕ) → IsWord w → IsWord (lower_word w)
unfolding lower_word
lower_is_word w is = word_by _ (map to_ascii_lowercase w) w (lower_letters w is) is
