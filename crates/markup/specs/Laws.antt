-- What is written nests.
use Rattle.std.specs.Prelude.{◌≡◌, ℕ, List, ◌++◌, true, false}
use Rattle.markup.specs.declared.names.Element.{Element}
use Rattle.markup.specs.Names.{is_leaf, is_raw}
use Rattle.markup.specs.ElementTexts.{Given, escaped, leaf_text, element_text}
use Rattle.markup.specs.HtmlReader.{IsContent, IsRaw}

-- a text opens nothing and closes nothing, whatever it holds
abbrev pub TextsAreContent : Type 0
TextsAreContent = (text : List ℕ) → IsContent (escaped text)

-- nor does an element without content, whatever its attributes hold
abbrev pub LeavesAreContent : Type 0
LeavesAreContent = (element : Element) (given : List Given) → is_leaf element ≡ true → IsContent (leaf_text element given)

-- an element closes what it opens
abbrev pub ElementsAreContent : Type 0
ElementsAreContent = (element : Element) (given : List Given) (inner : List ℕ) → is_raw element ≡ false → IsContent inner
    → IsContent (element_text element given inner)

-- so does a style or a script, which what is in it does not end
abbrev pub RawElementsAreContent : Type 0
RawElementsAreContent = (element : Element) (given : List Given) (inner : List ℕ) → is_raw element ≡ true → IsRaw inner
    → IsContent (element_text element given inner)

-- one after the other
abbrev pub ContentsJoin : Type 0
ContentsJoin = (a b : List ℕ) → IsContent a → IsContent b → IsContent (a ++ b)
