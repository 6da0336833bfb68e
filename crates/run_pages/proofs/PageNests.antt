-- A page closes all that it opens.
use Rattle.std.proofs.Common.{List, ℕ, codes, refl}
use Rattle.markup.specs.Markups.{markup_text}
use Rattle.markup.proofs.Markups.{markups_are_content}
use Rattle.markup.specs.Frames.{html}
use Rattle.markup.proofs.Pages.{pages_nest}
use Rattle.run_charts.specs.Runs.{Run}
use Rattle.run_pages.specs.Pages.{IsPage, Sheet, content, or_words, page}

pub page_nests : (s : Sheet) (run : Run) → IsPage (page s run)
page_nests s run =
    let title : List ℕ = or_words s.title (codes "A run") in
    record {
      markup = html title (markup_text (content s run));
      whole = refl;
      nests = pages_nest title (markup_text (content s run)) (markups_are_content (content s run));
    }
