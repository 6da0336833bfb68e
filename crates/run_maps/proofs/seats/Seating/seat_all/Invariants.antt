use Rattle.std.proofs.Common.{◌≡◌, drop}
use Rattle.run_maps.specs.Layouts.{seated_all}
use Rattle.run_maps.proofs.seats.Seating.seat_all.Given as goal

-- the seats so far, with those of the nodes to come
abbrev pub invariant-loop-node : goal.invariant-loop-node
invariant-loop-node l = seated_all l.search l.leaves (drop l.node-index l.nodes) l.self ≡ seated_all l.search l.leaves l.nodes l.fn.self
