use Rattle.std.proofs.Common.{◌≡◌}
use Rattle.run_pages.specs.Pages.{failed_among}
use Rattle.run_pages.proofs.page_text.Sheet.failed.Given as goal

-- those so far
abbrev pub invariant-loop-number : goal.invariant-loop-number
invariant-loop-number l =
    l.all ≡ failed_among l.self l.number
