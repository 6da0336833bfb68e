-- A page nests.
use Rattle.std.specs.Prelude.{ℕ, List, ◌++◌, ◌≡◌}
use Rattle.markup.specs.HtmlReader.{IsContent}
use Rattle.markup.specs.Frames.{html, page_end, page_start, page_text}

-- after the type of the document, a page closes all that it opens, where its content does
abbrev pub PagesNest : Type 0
PagesNest = (title content : List ℕ) → IsContent content → IsContent (html title content)

-- the two ends and what is between them are the page
abbrev pub EndsMeet : Type 0
EndsMeet = (title content : List ℕ) → page_start title ++ (content ++ page_end) ≡ page_text title content
