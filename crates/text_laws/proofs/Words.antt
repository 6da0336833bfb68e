-- Words of a line, and the line in lower case.
use Rattle.std.proofs.Common.{◌≡◌, ℕ, suc, ◌+◌, ◌<◌, ◌==◌, Bool, true, false, not, cond, List, [], ◌∷◌, length, map, take, drop, Option, Some, None, refl}
use Rattle.std.proofs.Common.{sym, ap, subst, ◌∙◌, arith}
use Rattle.std.specs.Prelude.{All, IfSome, nat_lt, if◌then◌else◌}
use Rattle.std.specs.List.{list_all, join_with_byte, slice_split, position_or_len, before_first, after_first}
use Rattle.std.specs.Option.{option_map}
use Rattle.std.specs.Str.{bytes_eq}
use Rattle.std.proofs.lemmas.Bool.{both_ways, le-ltb, ltb-true, ltb-false}
use Rattle.std.proofs.lemmas.List.{take_all}
use Rattle.std.proofs.lemmas.List.Elements.{All-cons, All-nil}
use Rattle.std.proofs.lemmas.List.Splits.{slice_split_first, slice_split_none, length-slice_split}
use Rattle.std.proofs.lemmas.Slice.Eq.{bytes_eq-Decides}
use Rattle.hex.specs.Hex.{is_hex_digit}
use Rattle.line_script.specs.Words.{◌>>=◌, Field, field}
use Rattle.line_script.specs.Lines.{spaced}
use Rattle.line_script.proofs.WordsRead.{IsWord, field_read}
use Rattle.text_laws.specs.LowerCase.{lower_word, lower_line}
use Rattle.text_laws.proofs.Letters.{lower_is_word}

-- # Optional values

pub if_then : {A B : Type 0} (P : A → Type 0) (Q : B → Type 0) (o : Option A) (f : A → Option B) → IfSome o P → ((a : A) → P a → IfSome (f a) Q)
    → IfSome (o >>= f) Q
if_then P Q (Some a) f is all = all a is
if_then P Q None f is all = tt

pub if_so : {A : Type 0} (P : A → Type 0) (b : Bool) (o : Option A) → IfSome o P → IfSome (if b then o else None) P
if_so P true o is = is
if_so P false o is = tt

none_by : {A : Type 0} (P : A → Type 0) (o : Option A) → IfSome o P → ((a : A) → P a → ⊥) → o ≡ None
none_by P None is never = refl
none_by P (Some a) is never = absurd (never a is)

-- # Spaces

abbrev pub space : ℕ → Bool
space c = c == 32

no_spaces : (w : List ℕ) → IsWord w → All (λ c. space c ≡ false) w
no_spaces [] is = All-nil (λ c. space c ≡ false)
no_spaces (c ∷ cs) is = All-cons (λ d. space d ≡ false) c cs is.0 (no_spaces cs is.1)

-- a line of one word
pub last_word : (w : List ℕ) → IsWord w → lower_line w ≡ lower_word w
unfolding lower_line
last_word w is = ap (λ (parts : List (List ℕ)). join_with_byte 32 (map lower_word parts)) (slice_split_none space w (no_spaces w is))

pub joined : (w : List ℕ) (parts : List (List ℕ)) → 0 < length parts
    → join_with_byte 32 (w ∷ map lower_word parts) ≡ spaced w (join_with_byte 32 (map lower_word parts))
joined w [] some = absurd (omega arith)
joined w (part ∷ parts) some = refl

split : (octets : List ℕ) → position_or_len space octets < length octets
    → lower_line octets ≡ spaced (lower_word (before_first space octets)) (lower_line (after_first space octets))
unfolding lower_line
split octets within =
    let parts : List (List ℕ) = slice_split space (after_first space octets) in
    let long = length-slice_split space (after_first space octets) in
    ap (λ (ps : List (List ℕ)). join_with_byte 32 (map lower_word ps)) (slice_split_first space octets 0 within)
    ∙ joined (lower_word (before_first space octets)) parts (omega (arith, long))

word_more : (c : ℕ) (cs : List ℕ) (b : Bool) → (c == 32) ≡ b → IsWord (before_first space cs)
    → IsWord (take (cond (not b) (1 + position_or_len space cs) 0) (c ∷ cs))
word_more c cs true is front = tt
word_more c cs false is front =
    let next : 1 + position_or_len space cs ≡ suc (position_or_len space cs) = omega arith in
    rw next (is, front)

-- what is before the first space is a word
word_before : (octets : List ℕ) → IsWord (before_first space octets)
word_before [] = tt
word_before (c ∷ cs) = word_more c cs (c == 32) refl (word_before cs)

-- # Fields

-- a line is its first word, a space and what comes after it
abbrev pub IsSplit : List ℕ → Field → Type 0
IsSplit octets first = IsWord first.word × (lower_line octets ≡ spaced (lower_word first.word) (lower_line first.rest))

-- a line without a space is a word
abbrev pub IsDivided : List ℕ → Option Field → Type 0
IsDivided octets None = IsWord octets
IsDivided octets (Some first) = IsSplit octets first

divided_by : (octets : List ℕ) (b : Bool) → nat_lt (position_or_len space octets) (length octets) ≡ b
    → IsDivided octets ((if b then Some (position_or_len space octets) else None)
    >>= λ at. Some (record { word = take at octets; rest = drop (at + 1) octets }))
divided_by octets true is = (word_before octets, split octets (ltb-true (position_or_len space octets) (length octets) is))
divided_by octets false is =
    subst IsWord (take_all (position_or_len space octets) octets (ltb-false (position_or_len space octets) (length octets) is)) (word_before octets)

pub divided : (octets : List ℕ) → IsDivided octets (field octets)
unfolding field
divided octets = divided_by octets (nat_lt (position_or_len space octets) (length octets)) refl

splits_by : (octets : List ℕ) (o : Option Field) → IsDivided octets o → IfSome o (IsSplit octets)
splits_by octets None is = tt
splits_by octets (Some first) is = is

pub field_splits : (octets : List ℕ) → IfSome (field octets) (IsSplit octets)
field_splits octets = splits_by octets (field octets) (divided octets)

whole : (w : List ℕ) → IsWord w → position_or_len space w ≡ length w
whole [] is = refl
whole (c ∷ cs) is = let more = whole cs is.1 in rw is.0 (omega (arith, more))

-- a word has no field
pub no_field : (w : List ℕ) → IsWord w → field w ≡ None
unfolding field
no_field w is = let all = whole w is in rw (le-ltb (position_or_len space w) (length w) (omega (arith, all))) refl

-- # Fields in lower case

abbrev pub lower_field : Field → Field
lower_field first = record { word = lower_word first.word; rest = lower_line first.rest }

same_by : (octets : List ℕ) (o : Option Field) → IsDivided octets o → field (lower_line octets) ≡ option_map lower_field o
same_by octets None is = ap field (last_word octets is) ∙ no_field (lower_word octets) (lower_is_word octets is)
same_by octets (Some first) is =
    ap field is.1 ∙ field_read (lower_word first.word) (lower_line first.rest) (lower_is_word first.word is.0)

-- the fields of a line in lower case
pub lower_fields : (octets : List ℕ) → field (lower_line octets) ≡ option_map lower_field (field octets)
lower_fields octets = same_by octets (field octets) (divided octets)

-- # Words that are read

-- a word is this text in lower case
abbrev pub IsSpelled : List ℕ → List ℕ → Type 0
IsSpelled word text = IsWord word × (lower_word word ≡ text)

-- what reads a word, where the word of each value is a text
pub record IsReader {A : Type 0} (read : List ℕ → Option A) (text : A → List ℕ) : Type 0 where
  -- what is read is the value's text, but for the case of digits
  pub spells : (word : List ℕ) → IfSome (read word) (λ a. IsSpelled word (text a))
  -- the case of digits is not read
  pub same : (word : List ℕ) → read (lower_word word) ≡ read word

module _ {A : Type 0} {read : List ℕ → Option A} {text : A → List ℕ} (r : IsReader read text) where
  -- only words are read
  no_words : (octets : List ℕ) (first : Field) → field octets ≡ Some first → read octets ≡ None
  no_words octets first found =
      none_by (λ a. IsSpelled octets (text a)) (read octets) (r.spells octets) (λ a is. let none = no_field octets is.0 in absurd (cc (none, found)))

  last_by : (octets : List ℕ) (o : Option Field) → field octets ≡ o → IsDivided octets o → read (lower_line octets) ≡ read octets
  last_by octets None found is = ap read (last_word octets is) ∙ r.same octets
  last_by octets (Some first) found is =
      no_words (lower_line octets) (lower_field first) (lower_fields octets ∙ ap (option_map lower_field) found) ∙ sym (no_words octets first found)

  -- the last word of a line
  pub last_same : (octets : List ℕ) → read (lower_line octets) ≡ read octets
  last_same octets = last_by octets (field octets) refl (divided octets)

-- # Words that are compared

pub same_word : (v w : List ℕ) (b : Bool) → bytes_eq v w ≡ b → b ≡ true → v ≡ w
same_word v w b is so = (bytes_eq-Decides v w).0 (is ∙ so)

not_hex_by : (v w : List ℕ) (b : Bool) → bytes_eq v w ≡ b → list_all is_hex_digit v ≡ true → list_all is_hex_digit w ≡ false → b ≡ false
not_hex_by v w true is are are_not =
    absurd (both_ways (list_all is_hex_digit w) are_not (subst (λ (x : List ℕ). list_all is_hex_digit x ≡ true) (same_word v w true is refl) are))
not_hex_by v w false is are are_not = refl

-- a word of hexadecimal digits is no word with other octets
pub not_hex : (v w : List ℕ) → list_all is_hex_digit v ≡ true → list_all is_hex_digit w ≡ false → bytes_eq v w ≡ false
not_hex v w are are_not = not_hex_by v w (bytes_eq v w) refl are are_not
