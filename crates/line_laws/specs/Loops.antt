-- What a run of the network keeps of its routes: no valid next hops form a loop, and no stored rank falls.
use Rattle.std.specs.Prelude.{◌≡◌, ℕ, false, All, List, [], ◌∷◌, Some, None, Result, Ok, Err}
use Rattle.plc_base.specs.declared.keeper.BadStore.{BadStore}
use Rattle.plc_base.specs.Keeper.{Records}
use Rattle.routing_set.specs.Ranks.{IsAtLeast}
use Rattle.routing_set.specs.RoutingSet as routing
use Rattle.node_rules.specs.Ciphers.{network}
use Rattle.node_rules.specs.Memory.{Node, node_route}
use Rattle.line_events.specs.declared.event.Event.TheVariants as events
use Rattle.line_rules.specs.Runs.{Entry, IsLineRun}
use Rattle.line_rules.specs.SafeRuns.{HasNoLoop}
use Rattle.line_rules.specs.Worlds.{World, node_at, start}

-- # What nodes store

-- the ranks and floors that records give
unfoldable pub ranks_in : Records → routing.Routing
ranks_in r = by_result (routing.opened r)
  where
    by_result : Result routing.Routing BadStore → routing.Routing
    by_result (Ok t) = t
    by_result (Err bad) = record { entries = []; floors = [] }

-- the ranks that a node stores, also a halted one
abbrev pub stored : Node → routing.Routing
stored x = ranks_in x.store.records

-- A node is there still, and no stored rank is lower.
pub record Later (v : World) (i : ℕ) (x : Node) : Type 0 where
  pub node : Node
  pub there : node_at v i ≡ Some node
  pub above : (dest : ℕ) → IsAtLeast (routing.held (stored node) dest) (routing.held (stored x) dest)

-- # Runs

-- each node is there after an event, and no rank that it stores is lower
abbrev pub RanksRise : World → World → Type 0
RanksRise w v = (i : ℕ) (x : Node) → node_at w i ≡ Some x → Later v i x

-- after each event before the first forged one no valid next hops form a loop, and no stored rank is lower than before
abbrev pub AreLoopFree : World → List Entry → Type 0
AreLoopFree w [] = Unit {0}
AreLoopFree w (x ∷ xs) =
    x.trace.happenings.forged ≡ false → HasNoLoop x.after × RanksRise w x.after × AreLoopFree x.after xs

-- no run of the network has a loop before it is forged
abbrev pub EveryRunIsLoopFree : Type 0
EveryRunIsLoopFree = (entries : List Entry) → IsLineRun network entries → AreLoopFree start entries

-- # Restarts

-- after a restart its node has no valid route
abbrev pub RestartsEndRoutes : List Entry → Type 0
RestartsEndRoutes entries =
    All (λ (x : Entry). (number : ℕ) (y : Node) → x.event ≡ events.Restart number → node_at x.after number ≡ Some y
    → (dest : ℕ) → node_route y dest ≡ None) entries

-- so it is in every run of the network, forged or not
abbrev pub EveryRestartEndsRoutes : Type 0
EveryRestartEndsRoutes = (entries : List Entry) → IsLineRun network entries → RestartsEndRoutes entries
