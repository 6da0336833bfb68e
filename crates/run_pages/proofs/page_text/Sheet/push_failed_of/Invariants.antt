use Rattle.std.proofs.Common.{◌≡◌, ◌++◌, drop}
use Rattle.markup.specs.Markups.{markup_text}
use Rattle.run_pages.specs.Pages.{failed_from}
use Rattle.run_pages.proofs.page_text.Sheet.push_failed_of.Given as goal

-- what was written, and the stories to come
abbrev pub invariant-loop-i : goal.invariant-loop-i
invariant-loop-i l =
    l.out.items ++ markup_text (failed_from l.self l.run l.left l.i (drop l.i l.stories))
    ≡ l.fn.out.items ++ markup_text (failed_from l.self l.run 300 0 l.stories)
