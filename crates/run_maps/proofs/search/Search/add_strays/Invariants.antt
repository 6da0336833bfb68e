use Rattle.std.proofs.Common.{◌≡◌}
use Rattle.run_maps.specs.Searches.{strays}
use Rattle.run_maps.proofs.search.Search.add_strays.Given as goal

-- the nodes so far
abbrev pub invariant-loop-node : goal.invariant-loop-node
invariant-loop-node l = l.self ≡ strays l.hops l.node l.fn.self
