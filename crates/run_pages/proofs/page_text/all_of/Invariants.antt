use Rattle.std.proofs.Common.{◌≡◌, drop}
use Rattle.run_pages.specs.Pages.{all_from}
use Rattle.run_pages.proofs.page_text.all_of.Given as goal

-- those so far, and those to come
abbrev pub invariant-loop-story : goal.invariant-loop-story
invariant-loop-story l =
    all_from l.kind (drop l.story-index l.stories) l.all ≡ all_from l.kind l.stories 0
