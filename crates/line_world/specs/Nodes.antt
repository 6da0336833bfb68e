-- The nodes of a line, as the rules of the line see them.
use Rattle.std.specs.Prelude.{Bool, List, [], ◌∷◌, map, Option, Some, None}
use Rattle.plc_base.specs.declared.address.Eui.{Eui}
use Rattle.plc_base.specs.declared.keeper.Cut.{Cut}
use Rattle.node_rules.specs.Acceptance.{same_eui}
use Rattle.plc_base.specs.Keeper.{Store}
use Rattle.node_rules.specs.Memory.{Memory, Role, Coordinator, Meter, Stored, Node}
use Rattle.node_rules.specs.States.{State}
use Rattle.meter_node.specs.MeterStates.{MeterState}
use Rattle.meter_node.specs.MeterStates as meters
use Rattle.coordinator.specs.CoordinatorStates.{CoordinatorState}
use Rattle.coordinator.specs.CoordinatorStates as coordinators

-- the loss of power that is still to come, where one is known
abbrev pub cut_ahead : Option (Option Cut) → Option Cut
cut_ahead None = None
cut_ahead (Some cut) = cut

-- what a keeper holds, as the store of a node
abbrev pub stored_in : Store → Stored
stored_in s = record { records = s.records; cut = cut_ahead s.known_cut }

-- a state, as a node
abbrev pub node_in : Role → State Memory → Node
node_in role s = record { role = role; eui = s.eui; store = stored_in s.store; memory = s.memory }

-- the coordinator, as a node
abbrev pub of_coordinator : CoordinatorState → Node
of_coordinator c = node_in Coordinator (coordinators.node_of c)

-- a meter, as a node
abbrev pub of_meter : MeterState → Node
of_meter m = node_in (Meter m.psk) (meters.node_of m)

-- the nodes by their numbers: the coordinator is node 0, and without one there is no node
abbrev pub nodes_in : Option CoordinatorState → List MeterState → List Node
nodes_in None ms = []
nodes_in (Some c) ms = of_coordinator c ∷ map of_meter ms

-- whether a meter has this EUI
abbrev pub has_eui : Eui → MeterState → Bool
has_eui eui m = same_eui m.station.eui eui
