-- What is put together nests.
use Rattle.markup.specs.HtmlReader.{IsContent}
use Rattle.markup.specs.Markups.{Markup, markup_text}

-- markup closes all that it opens, and nothing else, whatever its texts hold
abbrev pub MarkupsAreContent : Type 0
MarkupsAreContent = (m : Markup) → IsContent (markup_text m)
