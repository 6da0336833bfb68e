-- The octets of texts, tags and elements.
use Rattle.std.specs.Prelude.{ℕ, ◌==◌, Bool, true, false, nat_lt, List, [], ◌∷◌, ◌++◌, codes, if◌then◌else◌}
use Rattle.std.specs.Fmt.{decimal}
use Rattle.markup.specs.declared.names.Element.{Element}
use Rattle.markup.specs.declared.names.Attribute.{Attribute}
use Rattle.markup.specs.Names.{element_word, attribute_word}

-- # Texts

-- an octet of a text: what has a meaning in markup is named, and a control character is U+FFFD
unfoldable pub escaped_octet : ℕ → List ℕ
escaped_octet c =
    if c == 60 then codes "&lt;"
    else (if c == 62 then codes "&gt;"
    else (if c == 38 then codes "&amp;"
    else (if c == 34 then codes "&quot;"
    else (if c == 39 then codes "&#39;"
    else (if c == 127 then 239 ∷ 191 ∷ 189 ∷ []
    else (if nat_lt c 32 then 239 ∷ 191 ∷ 189 ∷ [] else c ∷ []))))))

-- whether an octet of a text is written as it is
abbrev pub is_plain : ℕ → Bool
is_plain c =
    if c == 60 then false
    else (if c == 62 then false
    else (if c == 38 then false
    else (if c == 34 then false
    else (if c == 39 then false
    else (if c == 127 then false
    else (if nat_lt c 32 then false else true))))))

abbrev pub escaped : List ℕ → List ℕ
escaped [] = []
escaped (c ∷ cs) = escaped_octet c ++ escaped cs

-- # Tags

unfoldable pub tag_start : Element → List ℕ
tag_start element = 60 ∷ element_word element

unfoldable pub attribute_start : Attribute → List ℕ
attribute_start attribute = 32 ∷ (attribute_word attribute ++ (61 ∷ 34 ∷ []))

abbrev pub attribute_end : List ℕ
attribute_end = 34 ∷ []

abbrev pub attribute_text : Attribute → List ℕ → List ℕ
attribute_text attribute value = attribute_start attribute ++ (escaped value ++ attribute_end)

abbrev pub number_text : Attribute → ℕ → List ℕ
number_text attribute value = attribute_start attribute ++ (decimal value ++ attribute_end)

unfoldable pub end_tag : Element → List ℕ
end_tag element = 60 ∷ 47 ∷ (element_word element ++ (62 ∷ []))

-- # Elements

-- an attribute with its value
pub record Given : Type 0 where
  pub attribute : Attribute
  pub value : List ℕ

abbrev pub attributes_text : List Given → List ℕ
attributes_text [] = []
attributes_text (g ∷ gs) = attribute_text g.attribute g.value ++ attributes_text gs

-- an element without content
abbrev pub leaf_text : Element → List Given → List ℕ
leaf_text element given = tag_start element ++ (attributes_text given ++ (47 ∷ 62 ∷ []))

-- an element and what is in it
abbrev pub element_text : Element → List Given → List ℕ → List ℕ
element_text element given inner = tag_start element ++ (attributes_text given ++ (62 ∷ (inner ++ end_tag element)))
