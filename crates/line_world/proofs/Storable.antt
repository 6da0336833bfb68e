-- What the nodes hold has room in their stores.
use Rattle.std.proofs.Common.{◌≤◌, List, map, Option, Some, None}
use Rattle.std.specs.Prelude.{All, IfSome}
use Rattle.std.proofs.lemmas.List.Elements.{All-cons, All-map, All-nil}
use Rattle.node_rules.specs.Memory.{Memory, Node, Role, Coordinator, Meter}
use Rattle.node_rules.specs.States.{State}
use Rattle.node_rules.specs.Tables.{HasShortTables}
use Rattle.meter_node.specs.MeterStates.{MeterState, node_of}
use Rattle.coordinator.specs.CoordinatorStates.{CoordinatorState}
use Rattle.coordinator.specs.CoordinatorStates as coordinators
use Rattle.line_world.specs.Nodes.{node_in, nodes_in, of_coordinator, of_meter}
use Rattle.line_world.specs.Soundness.{AreSound, NodeAgreesWith, IsBelow, IsShort, IsSound, IsSoundMeter}
use Rattle.line_world.proofs.NodeActs.{short_tables}

pub is_short : (role : Role) (s : State Memory) → IsSound role s → IsShort (node_in role s)
is_short role s sound = by s.memory sound.agrees
  where
    by : (o : Option Memory) → IfSome o (λ m. NodeAgreesWith role m s.store.records) → IfSome o (λ m. HasShortTables m.station)
    by None a = tt
    by (Some m) a = short_tables role m s.store.records a

pub is_below : (role : Role) (s : State Memory) → IsSound role s → IsBelow (node_in role s)
is_below role s sound = by s.memory sound.agrees
  where
    by : (o : Option Memory) → IfSome o (λ m. NodeAgreesWith role m s.store.records) → IfSome o (λ m. m.station.counter.next ≤ m.station.counter.limit)
    by None a = tt
    by (Some m) a = a.station.counter.below

-- of each meter
pub meters_are : (P : Node → Type 0) → ((m : MeterState) → IsSoundMeter m → P (of_meter m)) → (ms : List MeterState) → All IsSoundMeter ms
    → All P (map of_meter ms)
meters_are P one ms sound = All-map P of_meter ms (λ i d within. one _ (sound i d within))

-- of each node
pub nodes_are : (P : Node → Type 0) → ((role : Role) (s : State Memory) → IsSound role s → P (node_in role s)) → (o : Option CoordinatorState)
    (ms : List MeterState) → AreSound o ms → All P (nodes_in o ms)
nodes_are P one None ms sound = All-nil P
nodes_are P one (Some c) ms sound =
    All-cons P (of_coordinator c) (map of_meter ms) (one Coordinator (coordinators.node_of c) sound.coordinator)
    (meters_are P (λ m h. one (Meter m.psk) (node_of m) h) ms sound.meters)
