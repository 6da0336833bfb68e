use Rattle.std.proofs.Common.{◌≡◌, ◌++◌, drop}
use Rattle.markup.specs.Markups.{markup_text}
use Rattle.run_pages.specs.NodeTables.{rows}
use Rattle.run_pages.proofs.node_table.push_rows.Given as goal

-- what was written, and the rows to come
abbrev pub invariant-loop-i : goal.invariant-loop-i
invariant-loop-i l =
    l.out.items ++ markup_text (rows l.pasts l.counts l.i (drop l.i l.euis)) ≡ l.fn.out.items ++ markup_text (rows l.pasts l.counts 0 l.euis)
