use Rattle.std.proofs.Common.{◌≡◌, drop}
use Rattle.run_pages.specs.Pages.{other_from}
use Rattle.run_pages.proofs.page_text.Sheet.others_of.Given as goal

-- those so far, and those to come
abbrev pub invariant-loop-i : goal.invariant-loop-i
invariant-loop-i l =
    other_from l.self l.kind l.i (drop l.i l.stories) l.all ≡ other_from l.self l.kind 0 l.stories 0
