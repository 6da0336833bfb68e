use Rattle.std.proofs.Common.{◌≡◌, replicate}
use Rattle.line_air.specs.Nodes.{new_node}
use Rattle.line_air.proofs.nodes.Nodes.new.Given as goal

abbrev pub invariant-loop-k : goal.invariant-loop-k
invariant-loop-k l = l.nodes.items ≡ replicate l.k new_node
