use Rattle.std.proofs.Common.{◌≡◌, ◌++◌}
use Rattle.markup.specs.Markups.{markup_text}
use Rattle.run_maps.specs.Routes.{routes_from}
use Rattle.run_maps.proofs.route.push_routes_from.Given as goal

-- those of the nodes so far
abbrev pub invariant-loop-node : goal.invariant-loop-node
invariant-loop-node l = l.out.items ≡ l.fn.out.items ++ markup_text (routes_from l.layout l.pasts l.homes l.node)
