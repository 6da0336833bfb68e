use Rattle.std.proofs.Common.{◌≡◌, drop}
use Rattle.run_maps.specs.Layouts.{leaves_from}
use Rattle.run_maps.proofs.seats.add_bands.Given as goal

-- the leaves so far, with those of the nodes to come
abbrev pub invariant-loop-node : goal.invariant-loop-node
invariant-loop-node l = leaves_from l.search (drop l.node-index l.nodes) l.leaves.items ≡ leaves_from l.search l.nodes l.fn.leaves.items
