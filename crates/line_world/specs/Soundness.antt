-- What holds of each node between the events of a line.
use Rattle.std.specs.Prelude.{◌≡◌, ◌≤◌, List, [], All, Option, IsSome, IfSome, IfNone}
use Rattle.plc_base.specs.Keeper.{Records}
use Rattle.group_keys.specs.KeyBook as book
use Rattle.node_rules.specs.Memory.{Memory, Node, Role, Coordinator, Meter}
use Rattle.node_rules.specs.States.{State}
use Rattle.node_rules.specs.Agreement.{AgreesWith}
use Rattle.node_rules.specs.Tables.{OfCoordinator, HasGaplessTables, HasShortTables}
use Rattle.meter_node.specs.MeterStates.{MeterState}
use Rattle.meter_node.specs.MeterStates as meters
use Rattle.coordinator.specs.CoordinatorAgreement.{HasCoordinatorAddress}
use Rattle.coordinator.specs.CoordinatorStates.{CoordinatorState}
use Rattle.coordinator.specs.CoordinatorStates as coordinators

-- What a node holds as stored is what its records give, for the coordinator the book too.
pub record NodeAgreesWith (role : Role) (m : Memory) (records : Records) : Type 0 where
  pub station : AgreesWith m.station records
  pub book : OfCoordinator role (book.AgreesWith m.book records)

-- The loss of power that is to come is known of a node's keeper; no table of its store has a gap, the coordinator's ring
-- has the address 0000, and unless it is halted it agrees with its store.
pub record IsSound (role : Role) (s : State Memory) : Type 0 where
  pub known_cut : IsSome s.store.known_cut
  pub tables : HasGaplessTables role s.store.records
  pub home : OfCoordinator role (HasCoordinatorAddress s.store.records)
  pub agrees : IfSome s.memory (λ m. NodeAgreesWith role m s.store.records)

-- a meter that is sound
abbrev pub IsSoundMeter : MeterState → Type 0
IsSoundMeter m = IsSound (Meter m.psk) (meters.node_of m)

-- a coordinator that is sound
abbrev pub IsSoundCoordinator : CoordinatorState → Type 0
IsSoundCoordinator x = IsSound Coordinator (coordinators.node_of x)

-- Each node that is there is sound, and before there is a coordinator there is no meter.
pub record AreSound (o : Option CoordinatorState) (ms : List MeterState) : Type 0 where
  pub coordinator : IfSome o IsSoundCoordinator
  pub meters : All IsSoundMeter ms
  pub begun : IfNone o (ms ≡ [])

-- no table of a node has more entries than slots
abbrev pub IsShort : Node → Type 0
IsShort x = IfSome x.memory (λ m. HasShortTables m.station)

-- a node's next counter is not past the limit that is stored
abbrev pub IsBelow : Node → Type 0
IsBelow x = IfSome x.memory (λ m. m.station.counter.next ≤ m.station.counter.limit)

abbrev pub AreBelow : List Node → Type 0
AreBelow nodes = All IsBelow nodes

abbrev pub AreShort : List Node → Type 0
AreShort nodes = All IsShort nodes
