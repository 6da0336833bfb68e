use Rattle.std.proofs.Common.{◌≡◌, ◌++◌, drop, string_bytes}
use Rattle.line_sim.specs.Links.{row_text}
use Rattle.line_sim.proofs.links.push_row.Given as goal

-- the lines so far and those to come
abbrev pub invariant-loop-link : goal.invariant-loop-link
invariant-loop-link l =
    string_bytes l.text ++ row_text l.from (drop l.link-index l.links) ≡ string_bytes l.fn.text ++ row_text l.from l.links
