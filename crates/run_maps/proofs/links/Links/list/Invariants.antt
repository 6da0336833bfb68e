use Rattle.std.proofs.Common.{◌≡◌, ◌++◌}
use Rattle.run_maps.specs.Links.{heard_list}
use Rattle.run_maps.proofs.links.Links.list.Given as goal

-- the list so far, with the links to come
abbrev pub invariant-loop-pair : goal.invariant-loop-pair
invariant-loop-pair l = l.list.items ++ heard_list l.pair-iterator ≡ heard_list l.self
