-- A text that is written as it is.
use Rattle.std.proofs.Common.{◌≡◌, ℕ, Bool, true, false, List, [], ◌∷◌, ◌++◌, ◌&&◌, refl, ap, ◌∙◌}
use Rattle.std.specs.Prelude.{◌==◌, nat_lt, codes, if◌then◌else◌}
use Rattle.std.specs.List.{list_all}
use Rattle.markup.specs.ElementTexts.{escaped, escaped_octet, is_plain}

by_tests : (a b d e f g h : Bool) (c : ℕ)
    → (if a then false else (if b then false else (if d then false else (if e then false else (if f then false
    else (if g then false else (if h then false else true))))))) ≡ true
    → (if a then codes "&lt;" else (if b then codes "&gt;" else (if d then codes "&amp;" else (if e then codes "&quot;" else (if f then codes "&#39;"
    else (if g then 239 ∷ 191 ∷ 189 ∷ [] else (if h then 239 ∷ 191 ∷ 189 ∷ [] else c ∷ []))))))) ≡ c ∷ []
by_tests true b d e f g h c is = absurd (cc)
by_tests false true d e f g h c is = absurd (cc)
by_tests false false true e f g h c is = absurd (cc)
by_tests false false false true f g h c is = absurd (cc)
by_tests false false false false true g h c is = absurd (cc)
by_tests false false false false false true h c is = absurd (cc)
by_tests false false false false false false true c is = absurd (cc)
by_tests false false false false false false false c is = refl

plain_octet : (c : ℕ) → is_plain c ≡ true → escaped_octet c ≡ c ∷ []
unfolding escaped_octet
plain_octet c is = by_tests (c == 60) (c == 62) (c == 38) (c == 34) (c == 39) (c == 127) (nat_lt c 32) c is

both : (a b : Bool) → (a && b) ≡ true → (a ≡ true) × (b ≡ true)
both true b is = (refl, is)
both false b is = absurd (cc)

pub plain_text : (text : List ℕ) → list_all is_plain text ≡ true → escaped text ≡ text
plain_text [] is = refl
plain_text (c ∷ cs) is =
    let parts = both (is_plain c) (list_all is_plain cs) is in
    ap (λ (xs : List ℕ). xs ++ escaped cs) (plain_octet c parts.0) ∙ ap (λ (xs : List ℕ). c ∷ xs) (plain_text cs parts.1)
