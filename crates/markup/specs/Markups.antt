-- Markup: elements in elements, with texts between them.
use Rattle.std.specs.Prelude.{ℕ, List, [], ◌++◌, if◌then◌else◌}
use Rattle.std.specs.Fmt.{decimal}
use Rattle.markup.specs.declared.names.Element.{Element}
use Rattle.markup.specs.declared.names.Attribute.{Attribute}
use Rattle.markup.specs.Names.{is_leaf, is_raw}
use Rattle.markup.specs.ElementTexts.{Given, element_text, escaped, leaf_text}

pub data Markup : Type 0 where
  Nothing : Markup
  -- a text, whatever it holds
  Words : List ℕ → Markup
  -- an element without content
  Leaf : Element → List Given → Markup
  -- an element and what is in it
  Inside : Element → List Given → Markup → Markup
  -- one after the other
  Both : Markup → Markup → Markup

-- # Attributes

abbrev pub with_text : Attribute → List ℕ → Given
with_text attribute value = record { attribute = attribute; value = value }

abbrev pub with_number : Attribute → ℕ → Given
with_number attribute value = with_text attribute (decimal value)

-- # Octets

-- The octets of markup. An element that has to have content is written with it alone, and a style or a script is no markup.
abbrev pub markup_text : Markup → List ℕ
markup_text Nothing = []
markup_text (Words text) = escaped text
markup_text (Leaf element given) = if is_leaf element then leaf_text element given else []
markup_text (Inside element given inner) = if is_raw element then [] else element_text element given (markup_text inner)
markup_text (Both a b) = markup_text a ++ markup_text b
