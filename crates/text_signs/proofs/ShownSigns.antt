-- What is shown of any octets hides nothing.
use Rattle.std.proofs.Common.{◌≡◌, ℕ, ◌==◌, Bool, true, false, ◌||◌, List, [], ◌∷◌, ◌++◌, map}
use Rattle.std.proofs.Common.{flat_map, chars, encode_utf8, encode_utf8_all, refl, sym, ap, subst, ◌∙◌, All, IsUtf8, if◌then◌else◌}
use Rattle.std.proofs.lemmas.Bool.{and_parts}
use Rattle.std.proofs.lemmas.List.Elements.{All-cons, All-nil}
use Rattle.std.proofs.lemmas.Str.{chars-encodes, scalars-chars}
use lib.Utf8.{scalar, scalars}
use Rattle.text_signs.specs.Signs.{HidesNothing, is_control, is_nonsign, shown_sign, sign_text}

abbrev Shown : ℕ → Type 0
Shown c = is_control c ≡ false

-- a sign is no control character, and a character where it is of one
sign_so : (c : ℕ) → scalar c ≡ true → (is_control (shown_sign c) ≡ false) × (scalar (shown_sign c) ≡ true)
sign_so c is = by_tab (c == 9) (is_control c || is_nonsign c) refl refl
  where
    by_tab : (tab hidden : Bool) → (c == 9) ≡ tab → (is_control c || is_nonsign c) ≡ hidden
        → (is_control (if tab then 32 else (if hidden then 65533 else c)) ≡ false) × (scalar (if tab then 32 else (if hidden then 65533 else c)) ≡ true)
    by_tab true hidden e f = (refl, refl)
    by_tab false true e f = (refl, refl)
    by_tab false false e f = (or_first (is_control c) (is_nonsign c) f, is)
      where
        or_first : (a b : Bool) → (a || b) ≡ false → a ≡ false
        or_first true b h = h
        or_first false b h = refl

signs_scalar : (cs : List ℕ) → scalars cs ≡ true → scalars (map shown_sign cs) ≡ true
signs_scalar [] is = refl
signs_scalar (c ∷ cs) is =
    let parts = and_parts (scalar c) (scalars cs) is in
    rw ((sign_so c parts.0).1) (signs_scalar cs parts.1)

signs_shown : (cs : List ℕ) → scalars cs ≡ true → All Shown (map shown_sign cs)
signs_shown [] is = All-nil Shown
signs_shown (c ∷ cs) is =
    let parts = and_parts (scalar c) (scalars cs) is in
    All-cons Shown (shown_sign c) (map shown_sign cs) ((sign_so c parts.0).0) (signs_shown cs parts.1)

signs_spelled : (cs : List ℕ) → flat_map sign_text cs ≡ encode_utf8_all (map shown_sign cs)
signs_spelled [] = refl
signs_spelled (c ∷ cs) = ap (λ text. encode_utf8 (shown_sign c) ++ text) (signs_spelled cs)

pub shown_plain : (words : List ℕ) → IsUtf8 words → HidesNothing (flat_map sign_text (chars words))
shown_plain words is_text =
    let cs : List ℕ = chars words in
    let is : scalars cs ≡ true = scalars-chars words is_text in
    subst (All Shown) (sym (ap chars (signs_spelled cs) ∙ chars-encodes (map shown_sign cs) (signs_scalar cs is))) (signs_shown cs is)
