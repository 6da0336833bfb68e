use Rattle.std.proofs.Common.{◌≡◌, ◌++◌}
use Rattle.markup.specs.Markups.{markup_text}
use Rattle.run_maps.specs.Maps.{nodes}
use Rattle.run_maps.proofs.map.push_nodes.Given as goal

-- the nodes so far
abbrev pub invariant-loop-node : goal.invariant-loop-node
invariant-loop-node l = l.out.items ≡ l.fn.out.items ++ markup_text (nodes l.layout l.pasts l.node)
