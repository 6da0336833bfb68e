use Rattle.std.proofs.Common.{◌≡◌, ◌++◌, drop}
use Rattle.markup.specs.Markups.{markup_text}
use Rattle.run_pages.specs.Reasons.{links}
use Rattle.run_pages.proofs.reasons.push_links.Given as goal

-- what was written, and the links to come
abbrev pub invariant-loop-story : goal.invariant-loop-story
invariant-loop-story l =
    l.out.items ++ markup_text (links l.account (drop l.story-index l.stories)) ≡ l.fn.out.items ++ markup_text (links l.account l.stories)
