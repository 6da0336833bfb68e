-- What is put together opens nothing that it does not close.
use Rattle.std.proofs.Common.{◌≡◌, ℕ, Bool, true, false, List, [], refl, if◌then◌else◌}
use Rattle.markup.specs.declared.names.Element.{Element}
use Rattle.markup.specs.Names.{is_leaf, is_raw}
use Rattle.markup.specs.ElementTexts.{Given, element_text, leaf_text}
use Rattle.markup.specs.HtmlReader.{IsContent, reached}
use Rattle.markup.proofs.Contents.{contents_join, elements_are_content, leaves_are_content, texts_are_content}
use Rattle.markup.specs.Markups.{Nothing, Words, Leaf, Inside, Both, markup_text}
use Rattle.markup.specs.PartLaws.{MarkupsAreContent}

nothing_is_content : IsContent []
unfolding IsContent reached
nothing_is_content os = refl

leaf_is_content : (is : Bool) (element : Element) (given : List Given) → is_leaf element ≡ is
    → IsContent (if is then leaf_text element given else [])
leaf_is_content true element given h = leaves_are_content element given h
leaf_is_content false element given h = nothing_is_content

inside_is_content : (is : Bool) (element : Element) (given : List Given) (inner : List ℕ) → is_raw element ≡ is → IsContent inner
    → IsContent (if is then [] else element_text element given inner)
inside_is_content true element given inner h hi = nothing_is_content
inside_is_content false element given inner h hi = elements_are_content element given inner h hi

pub markups_are_content : MarkupsAreContent
markups_are_content Nothing = nothing_is_content
markups_are_content (Words text) = texts_are_content text
markups_are_content (Leaf element given) = leaf_is_content (is_leaf element) element given refl
markups_are_content (Inside element given inner) =
    inside_is_content (is_raw element) element given (markup_text inner) refl (markups_are_content inner)
markups_are_content (Both a b) = contents_join (markup_text a) (markup_text b) (markups_are_content a) (markups_are_content b)
