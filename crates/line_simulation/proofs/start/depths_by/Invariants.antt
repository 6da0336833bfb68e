use Rattle.std.proofs.Common.{◌≡◌, map, take}
use Rattle.line_simulation.specs.Start.{depth_of}
use Rattle.line_simulation.proofs.start.depths_by.Given as goal

abbrev pub invariant-loop-hop : goal.invariant-loop-hop
invariant-loop-hop l = l.depths.items ≡ map depth_of (take l.hop-index l.hops)
