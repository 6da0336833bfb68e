-- What is written opens nothing that it does not close.
use Rattle.std.proofs.Common.{◌≡◌, ◌==◌, ℕ, Bool, true, false, List, [], ◌∷◌, ◌++◌, codes, refl, ap, ◌∙◌, if◌then◌else◌, nat_lt}
use Rattle.markup.specs.Names.{element_word, attribute_word}
use Rattle.markup.specs.ElementTexts.{Given, escaped, escaped_octet, attribute_start, attribute_text, attributes_text, tag_start, end_tag}
use Rattle.markup.specs.HtmlReader.{Mode, Opening, Naming, Quoted, Spaced, Place, at_mode, content, raw, inside, reached, stepped}
use Rattle.markup.specs.HtmlReader.{is_leaf_word, IsContent, IsRaw}
use Rattle.markup.specs.Laws.{TextsAreContent, LeavesAreContent, ElementsAreContent, RawElementsAreContent, ContentsJoin}
use Rattle.markup.proofs.Words.{word_opens, word_closes, word_closes_raw, word_names, inside_content, inside_raw, leaf_words}

-- octets are followed one after the other
reached_append : (p : Place) (a b : List ℕ) → reached p (a ++ b) ≡ reached (reached p a) b
unfolding reached
reached_append p [] b = refl
reached_append p (c ∷ cs) b = reached_append (stepped p.mode c p.opened) cs b

followed : (p q : Place) (a b : List ℕ) → reached p a ≡ q → reached p (a ++ b) ≡ reached q b
followed p q a b e = reached_append p a b ∙ ap (λ (r : Place). reached r b) e

-- # Texts

abbrev spelled : ℕ → Bool → Bool → Bool → Bool → Bool → Bool → Bool → List ℕ
spelled c less more ampersand quote apostrophe delete control =
    if less then codes "&lt;"
    else (if more then codes "&gt;"
    else (if ampersand then codes "&amp;"
    else (if quote then codes "&quot;"
    else (if apostrophe then codes "&#39;"
    else (if delete then 239 ∷ 191 ∷ 189 ∷ []
    else (if control then 239 ∷ 191 ∷ 189 ∷ [] else c ∷ []))))))

stays : (c : ℕ) (os : List (List ℕ)) (l m a q p d t : Bool) → (c == 60) ≡ l → (c == 62) ≡ m → (c == 38) ≡ a
    → reached (content os) (spelled c l m a q p d t) ≡ content os
unfolding reached
stays c os true m a q p d t hl hm ha = refl
stays c os false true a q p d t hl hm ha = refl
stays c os false false true q p d t hl hm ha = refl
stays c os false false false true p d t hl hm ha = refl
stays c os false false false false true d t hl hm ha = refl
stays c os false false false false false true t hl hm ha = refl
stays c os false false false false false false true hl hm ha = refl
stays c os false false false false false false false hl hm ha = rw (hl, ha, hm) refl

stays_quoted : (c : ℕ) (name : List ℕ) (os : List (List ℕ)) (l m a q p d t : Bool) → (c == 60) ≡ l → (c == 62) ≡ m → (c == 38) ≡ a → (c == 34) ≡ q
    → reached (at_mode (Quoted name) os) (spelled c l m a q p d t) ≡ at_mode (Quoted name) os
unfolding reached
stays_quoted c name os true m a q p d t hl hm ha hq = refl
stays_quoted c name os false true a q p d t hl hm ha hq = refl
stays_quoted c name os false false true q p d t hl hm ha hq = refl
stays_quoted c name os false false false true p d t hl hm ha hq = refl
stays_quoted c name os false false false false true d t hl hm ha hq = refl
stays_quoted c name os false false false false false true t hl hm ha hq = refl
stays_quoted c name os false false false false false false true hl hm ha hq = refl
stays_quoted c name os false false false false false false false hl hm ha hq = rw (hq, ha, hl, hm) refl

octet_stays : (c : ℕ) (os : List (List ℕ)) → reached (content os) (escaped_octet c) ≡ content os
unfolding escaped_octet
octet_stays c os = stays c os (c == 60) (c == 62) (c == 38) (c == 34) (c == 39) (c == 127) (nat_lt c 32) refl refl refl

octet_stays_quoted : (c : ℕ) (name : List ℕ) (os : List (List ℕ)) → reached (at_mode (Quoted name) os) (escaped_octet c) ≡ at_mode (Quoted name) os
unfolding escaped_octet
octet_stays_quoted c name os = stays_quoted c name os (c == 60) (c == 62) (c == 38) (c == 34) (c == 39) (c == 127) (nat_lt c 32) refl refl refl refl

text_stays : (text : List ℕ) (os : List (List ℕ)) → reached (content os) (escaped text) ≡ content os
unfolding reached
text_stays [] os = refl
text_stays (c ∷ cs) os = followed (content os) (content os) (escaped_octet c) (escaped cs) (octet_stays c os) ∙ text_stays cs os

text_stays_quoted : (text name : List ℕ) (os : List (List ℕ)) → reached (at_mode (Quoted name) os) (escaped text) ≡ at_mode (Quoted name) os
unfolding reached
text_stays_quoted [] name os = refl
text_stays_quoted (c ∷ cs) name os =
    followed (at_mode (Quoted name) os) (at_mode (Quoted name) os) (escaped_octet c) (escaped cs) (octet_stays_quoted c name os) ∙ text_stays_quoted cs name os

pub texts_are_content : TextsAreContent
unfolding IsContent
texts_are_content text os = text_stays text os

pub contents_join : ContentsJoin
unfolding IsContent
contents_join a b ha hb os = followed (content os) (content os) a b (ha os) ∙ hb os

-- # Attributes

-- an attribute, after its space
attribute_named : (g : Given) (name : List ℕ) (os : List (List ℕ))
    → reached (at_mode (Spaced name) os) (attribute_text g.attribute g.value) ≡ at_mode (Spaced name) os
unfolding reached attribute_start
attribute_named g name os =
    followed (at_mode (Naming name) os) (at_mode (Quoted name) os) (attribute_word g.attribute ++ (61 ∷ 34 ∷ [])) (escaped g.value ++ (34 ∷ []))
    (word_names g.attribute name os)
    ∙ followed (at_mode (Quoted name) os) (at_mode (Quoted name) os) (escaped g.value) (34 ∷ []) (text_stays_quoted g.value name os)

attributes_named : (gs : List Given) (name : List ℕ) (os : List (List ℕ)) → reached (at_mode (Spaced name) os) (attributes_text gs) ≡ at_mode (Spaced name) os
unfolding reached
attributes_named [] name os = refl
attributes_named (g ∷ gs) name os =
    followed (at_mode (Spaced name) os) (at_mode (Spaced name) os) (attribute_text g.attribute g.value) (attributes_text gs) (attribute_named g name os)
    ∙ attributes_named gs name os

-- a start tag that ends
tag_ends : (gs : List Given) (name rest : List ℕ) (os : List (List ℕ))
    → reached (at_mode (Opening name) os) (attributes_text gs ++ (62 ∷ rest)) ≡ reached (at_mode (inside name) (name ∷ os)) rest
unfolding reached attribute_start
tag_ends [] name rest os = refl
tag_ends (g ∷ gs) name rest os =
    followed (at_mode (Spaced name) os) (at_mode (Spaced name) os) (attributes_text (g ∷ gs)) (62 ∷ rest) (attributes_named (g ∷ gs) name os)

-- an element that ends with its start tag
leaf_ends : (gs : List Given) (name : List ℕ) (os : List (List ℕ)) → is_leaf_word name ≡ true
    → reached (at_mode (Opening name) os) (attributes_text gs ++ (47 ∷ 62 ∷ [])) ≡ content os
unfolding reached attribute_start
leaf_ends [] name os h = rw h refl
leaf_ends (g ∷ gs) name os h =
    followed (at_mode (Spaced name) os) (at_mode (Spaced name) os) (attributes_text (g ∷ gs)) (47 ∷ 62 ∷ []) (attributes_named (g ∷ gs) name os) ∙ rw h refl

-- # Elements

pub leaves_are_content : LeavesAreContent
unfolding IsContent
leaves_are_content element given h os =
    followed (content os) (at_mode (Opening (element_word element)) os) (tag_start element) (attributes_text given ++ (47 ∷ 62 ∷ [])) (word_opens element os)
    ∙ leaf_ends given (element_word element) os (leaf_words element h)

pub elements_are_content : ElementsAreContent
unfolding IsContent
elements_are_content element given inner h hi os =
    let name : List ℕ = element_word element in
    followed (content os) (at_mode (Opening name) os) (tag_start element) (attributes_text given ++ (62 ∷ (inner ++ end_tag element))) (word_opens element os)
    ∙ tag_ends given name (inner ++ end_tag element) os
    ∙ ap (λ (m : Mode). reached (at_mode m (name ∷ os)) (inner ++ end_tag element)) (inside_content element h)
    ∙ followed (content (name ∷ os)) (content (name ∷ os)) inner (end_tag element) (hi (name ∷ os))
    ∙ word_closes element os

pub raw_elements_are_content : RawElementsAreContent
unfolding IsContent IsRaw
raw_elements_are_content element given inner h hi os =
    let name : List ℕ = element_word element in
    followed (content os) (at_mode (Opening name) os) (tag_start element) (attributes_text given ++ (62 ∷ (inner ++ end_tag element))) (word_opens element os)
    ∙ tag_ends given name (inner ++ end_tag element) os
    ∙ ap (λ (m : Mode). reached (at_mode m (name ∷ os)) (inner ++ end_tag element)) (inside_raw element h)
    ∙ followed (raw (name ∷ os)) (raw (name ∷ os)) inner (end_tag element) (hi (name ∷ os))
    ∙ word_closes_raw element os
