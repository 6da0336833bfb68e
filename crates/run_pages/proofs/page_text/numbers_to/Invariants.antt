use Rattle.std.proofs.Common.{◌≡◌}
use Rattle.run_pages.specs.Pages.{numbers_to}
use Rattle.run_pages.proofs.page_text.numbers_to.Given as goal

-- those so far
abbrev pub invariant-loop-i : goal.invariant-loop-i
invariant-loop-i l =
    l.numbers.items ≡ numbers_to l.i
