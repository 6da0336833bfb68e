-- A law of pages.
use Rattle.run_charts.specs.Runs.{Run}
use Rattle.run_pages.specs.Pages.{IsPage, Sheet, page}

-- a page closes all that it opens, whatever it shows
abbrev pub PagesAreWhole : Type 0
PagesAreWhole = (s : Sheet) (run : Run) → IsPage (page s run)
