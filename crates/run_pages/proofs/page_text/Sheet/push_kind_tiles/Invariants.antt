use Rattle.std.proofs.Common.{◌≡◌, ◌++◌, drop}
use Rattle.markup.specs.Markups.{markup_text}
use Rattle.run_pages.specs.Pages.{kind_tiles}
use Rattle.run_pages.proofs.page_text.Sheet.push_kind_tiles.Given as goal

-- what was written, and the tiles to come
abbrev pub invariant-loop-kind : goal.invariant-loop-kind
invariant-loop-kind l =
    l.out.items ++ markup_text (kind_tiles l.self (drop l.kind-index l.kinds)) ≡ l.fn.out.items ++ markup_text (kind_tiles l.self l.kinds)
