use Rattle.std.proofs.Common.{◌≡◌, ◌++◌, drop}
use Rattle.markup.specs.Markups.{markup_text}
use Rattle.run_maps.specs.Ties.{lines}
use Rattle.run_maps.proofs.tie.push_lines.Given as goal

-- what was written, and the lines to come
abbrev pub invariant-loop-placed : goal.invariant-loop-placed
invariant-loop-placed l =
    l.out.items ++ markup_text (lines (drop l.placed-index l.ties)) ≡ l.fn.out.items ++ markup_text (lines l.ties)
