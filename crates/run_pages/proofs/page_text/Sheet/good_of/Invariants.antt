use Rattle.std.proofs.Common.{◌≡◌, drop}
use Rattle.run_pages.specs.Pages.{good_from}
use Rattle.run_pages.proofs.page_text.Sheet.good_of.Given as goal

-- those so far, and those to come
abbrev pub invariant-loop-i : goal.invariant-loop-i
invariant-loop-i l =
    good_from l.self.account l.kind l.i (drop l.i l.stories) l.good ≡ good_from l.self.account l.kind 0 l.stories 0
