-- What is before the content of a page, and what is after it.
use Rattle.std.specs.Prelude.{ℕ, List, [], ◌∷◌, ◌++◌, codes}
use Rattle.markup.specs.declared.names.Element.TheVariants as E
use Rattle.markup.specs.declared.names.Attribute.TheVariants as A
use Rattle.markup.specs.ElementTexts.{attribute_text, element_text, end_tag, tag_start}
use Rattle.markup.specs.Markups.{Words, Leaf, Inside, markup_text, with_text}
use Rattle.markup.specs.Style.{style_text}

-- # The head

unfoldable pub charset : List ℕ
charset = markup_text (Leaf E.Meta (with_text A.Charset (codes "utf-8") ∷ []))

-- nothing is loaded and nothing runs
unfoldable pub policy : List ℕ
policy =
    markup_text
    (Leaf E.Meta
    (with_text A.Equivalent (codes "Content-Security-Policy")
    ∷ with_text A.Content (codes "default-src 'none'; style-src 'unsafe-inline'") ∷ []))

unfoldable pub viewport : List ℕ
viewport =
    markup_text
    (Leaf E.Meta (with_text A.Name (codes "viewport") ∷ with_text A.Content (codes "width=device-width, initial-scale=1") ∷ []))

unfoldable pub title_text : List ℕ → List ℕ
title_text title = markup_text (Inside E.Title [] (Words title))

unfoldable pub style : List ℕ
style = element_text E.Style [] style_text

unfoldable pub head_content : List ℕ → List ℕ
head_content title = charset ++ (policy ++ (viewport ++ (title_text title ++ style)))

unfoldable pub head : List ℕ → List ℕ
head title = element_text E.Head [] (head_content title)

-- # The whole

abbrev pub body : List ℕ → List ℕ
body content = element_text E.Body [] (element_text E.Main [] content)

-- the whole page but the type of the document, with its title and its content
abbrev pub html : List ℕ → List ℕ → List ℕ
html title content = element_text E.Html (with_text A.Language (codes "en") ∷ []) (head title ++ body content)

unfoldable pub doctype : List ℕ
doctype = codes "<!doctype html>"

abbrev pub page_text : List ℕ → List ℕ → List ℕ
page_text title content = doctype ++ html title content

-- # The two ends of it

unfoldable pub html_start : List ℕ
html_start = tag_start E.Html ++ (attribute_text A.Language (codes "en") ++ (62 ∷ []))

unfoldable pub body_start : List ℕ
body_start = tag_start E.Body ++ (62 ∷ (tag_start E.Main ++ (62 ∷ [])))

abbrev pub page_start : List ℕ → List ℕ
page_start title = doctype ++ (html_start ++ (head title ++ body_start))

abbrev pub page_end : List ℕ
page_end = end_tag E.Main ++ (end_tag E.Body ++ end_tag E.Html)
