use Rattle.std.proofs.Common.{◌≡◌, drop}
use Rattle.run_pages.specs.Pages.{refusals_from}
use Rattle.run_pages.proofs.page_text.refused_among.Given as goal

-- those so far, and those to come
abbrev pub invariant-loop-recorded : goal.invariant-loop-recorded
invariant-loop-recorded l =
    refusals_from (drop l.recorded-index l.events) l.all ≡ refusals_from l.events 0
