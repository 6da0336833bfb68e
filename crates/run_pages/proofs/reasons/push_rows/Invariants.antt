use Rattle.std.proofs.Common.{◌≡◌, ◌++◌, drop}
use Rattle.markup.specs.Markups.{markup_text}
use Rattle.run_pages.specs.Reasons.{rows}
use Rattle.run_pages.proofs.reasons.push_rows.Given as goal

-- what was written, and the rows to come
abbrev pub invariant-loop-group : goal.invariant-loop-group
invariant-loop-group l =
    l.out.items ++ markup_text (rows l.account (drop l.group-index l.groups)) ≡ l.fn.out.items ++ markup_text (rows l.account l.groups)
