use Rattle.std.proofs.Common.{◌≡◌, drop}
use Rattle.run_pages.specs.Pages.{missed_from}
use Rattle.run_pages.proofs.page_text.missed_among.Given as goal

-- those so far, and those to come
abbrev pub invariant-loop-course : goal.invariant-loop-course
invariant-loop-course l =
    missed_from (drop l.course-index l.courses) l.all ≡ missed_from l.courses 0
