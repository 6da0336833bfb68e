-- After a restart a node has no valid route.
use Rattle.std.proofs.Common.{◌≡◌, ℕ, Option, Some, None, refl}
use Rattle.routing_set.specs.declared.rank.Rank.{Rank}
use Rattle.node_rules.specs.Memory.{Node, node_route}
use Rattle.line_rules.specs.Steps.{restarts}
use Rattle.line_laws.specs.Lines.{NodeOk}
use Rattle.line_laws.proofs.LoopFree.{route_via}
use Rattle.line_laws.proofs.RouteNodes.{restarted_none}

pub no_routes : (x : Node) → NodeOk x → (dest : ℕ) → node_route (restarts x).node dest ≡ None
no_routes x ok dest = by_route (node_route (restarts x).node dest) refl
  where
    by_route : (o : Option ℕ) → node_route (restarts x).node dest ≡ o → o ≡ None
    by_route None e = refl
    by_route (Some next) e =
        absurd (restarted_none (λ a. Unit {0}) (λ a. Unit {0}) (λ a b (r : Rank). Unit {0}) x ok dest next (route_via (restarts x).node dest next e))
