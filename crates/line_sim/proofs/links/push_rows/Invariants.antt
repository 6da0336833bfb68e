use Rattle.std.proofs.Common.{◌≡◌, ◌++◌, string_bytes}
use Rattle.line_sim.specs.Links.{rows_text}
use Rattle.line_sim.proofs.links.push_rows.Given as goal

-- the lines of the nodes so far
abbrev pub invariant-loop-from : goal.invariant-loop-from
invariant-loop-from l = string_bytes l.text ≡ string_bytes l.fn.text ++ rows_text l.place l.from
