use Rattle.std.proofs.Common.{◌≡◌, ◌++◌, drop}
use Rattle.markup.specs.Markups.{markup_text}
use Rattle.run_pages.specs.Pages.{stories}
use Rattle.run_pages.proofs.page_text.Sheet.push_stories.Given as goal

-- what was written, and the stories of the kinds to come
abbrev pub invariant-loop-kind : goal.invariant-loop-kind
invariant-loop-kind l =
    l.out.items ++ markup_text (stories l.self l.run (drop l.kind-index l.kinds))
    ≡ l.fn.out.items ++ markup_text (stories l.self l.run l.kinds)
