-- Words, and the lines that are made of them: a text that begins with such a line begins with no other one.
use Rattle.std.proofs.Common.{◌≡◌, ℕ, ◌==◌, ◌&&◌, Bool, true, false, not, List, [], ◌∷◌, ◌++◌, refl, sym, ap, ◌∙◌, arith}
use Rattle.std.specs.Prelude.{codes}
use Rattle.std.specs.List.{list_all}
use Rattle.std.proofs.lemmas.Bool.{and_parts, both_ways}
use Rattle.std.proofs.lemmas.List.{append_assoc}
use Rattle.text_laws.specs.ReportLines.{words_text}

-- # Words

-- neither a space nor a line feed
abbrev pub is_plain : ℕ → Bool
is_plain c = not (c == 32) && not (c == 10)

-- a word of a line
abbrev pub IsPlain : List ℕ → Type 0
IsPlain word = list_all is_plain word ≡ true

abbrev pub ArePlain : List (List ℕ) → Type 0
ArePlain [] = Unit {0}
ArePlain (word ∷ words) = IsPlain word × ArePlain words

-- what is no part of a word ends it
never : (c d : ℕ) → is_plain c ≡ false → is_plain d ≡ true → c ≡ d → ⊥
never c d ends plain is = both_ways (is_plain d) (ap is_plain (sym is) ∙ ends) plain

pub split_word : (v w a b : List ℕ) (c d : ℕ) → IsPlain v → IsPlain w → is_plain c ≡ false → is_plain d ≡ false → v ++ (c ∷ a) ≡ w ++ (d ∷ b)
    → (v ≡ w) × (c ≡ d) × (a ≡ b)
split_word [] [] a b c d pv pw ec ed is = (refl, cc is, cc is)
split_word [] (y ∷ w) a b c d pv pw ec ed is = absurd (never c y ec (and_parts (is_plain y) (list_all is_plain w) pw).0 (cc is))
split_word (x ∷ v) [] a b c d pv pw ec ed is = absurd (never d x ed (and_parts (is_plain x) (list_all is_plain v) pv).0 (cc is))
split_word (x ∷ v) (y ∷ w) a b c d pv pw ec ed is =
    let first : x ≡ y = cc is in
    let next : v ++ (c ∷ a) ≡ w ++ (d ∷ b) = cc is in
    let more = split_word v w a b c d (and_parts (is_plain x) (list_all is_plain v) pv).1 (and_parts (is_plain y) (list_all is_plain w) pw).1 ec ed next in
    (λ i. first i ∷ more.0 i, more.1, more.2)

-- # Lines of words

-- what comes after a word: a space where others follow, or a line feed
abbrev pub end_of : List (List ℕ) → ℕ
end_of [] = 10
end_of (word ∷ words) = 32

end_plain : (words : List (List ℕ)) → is_plain (end_of words) ≡ false
end_plain [] = refl
end_plain (word ∷ words) = refl

-- the text of words, and what comes after it
abbrev text_then : List (List ℕ) → List ℕ → List ℕ
text_then [] after = after
text_then (word ∷ words) after = word ++ (end_of words ∷ text_then words after)

then_text : (words : List (List ℕ)) (after : List ℕ) → words_text words ++ after ≡ text_then words after
then_text [] after = refl
then_text (word ∷ []) after = append_assoc word (codes "\n") after
then_text (word ∷ next ∷ words) after =
    append_assoc word (codes " " ++ words_text (next ∷ words)) after ∙ ap (λ (rest : List ℕ). word ++ (32 ∷ rest)) (then_text (next ∷ words) after)

same_then : (vs ws : List (List ℕ)) (a b : List ℕ) → ArePlain vs → ArePlain ws → end_of vs ≡ end_of ws → text_then vs a ≡ text_then ws b
    → (vs ≡ ws) × (a ≡ b)
same_then [] [] a b pv pw ends is = (refl, is)
same_then [] (w ∷ ws) a b pv pw ends is = absurd (omega (arith, ends))
same_then (v ∷ vs) [] a b pv pw ends is = absurd (omega (arith, ends))
same_then (v ∷ vs) (w ∷ ws) a b pv pw ends is =
    let first = split_word v w (text_then vs a) (text_then ws b) (end_of vs) (end_of ws) pv.0 pw.0 (end_plain vs) (end_plain ws) is in
    let more = same_then vs ws a b pv.1 pw.1 first.1 first.2 in
    (λ i. first.0 i ∷ more.0 i, more.1)

-- two texts that begin with lines of words have the same words there, and the same after them
pub same_words : (vs ws : List (List ℕ)) (a b : List ℕ) → ArePlain vs → ArePlain ws → end_of vs ≡ end_of ws → words_text vs ++ a ≡ words_text ws ++ b
    → (vs ≡ ws) × (a ≡ b)
same_words vs ws a b pv pw ends is = same_then vs ws a b pv pw ends (sym (then_text vs a) ∙ is ∙ then_text ws b)

no_front : (word rest : List ℕ) (c : ℕ) → [] ≡ word ++ (c ∷ rest) → ⊥
no_front [] rest c is = absurd (cc is)
no_front (x ∷ word) rest c is = absurd (cc is)

-- words have a text
pub no_text : (words : List (List ℕ)) (after : List ℕ) → end_of words ≡ 32 → [] ≡ words_text words ++ after → ⊥
no_text [] after some is = absurd (omega (arith, some))
no_text (word ∷ words) after some is = no_front word (text_then words after) (end_of words) (is ∙ then_text (word ∷ words) after)
