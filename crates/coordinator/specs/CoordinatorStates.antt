-- What the coordinator is seen as, and what it is as a node.
use Rattle.std.specs.Prelude.{List, None, refl}
use Rattle.std.specs.Coded.{Coded, code_by, coded×, coded_list}
use Rattle.plc_base.specs.declared.key.RandomOctets.{RandomOctets}
use Rattle.group_keys.specs.KeyBook.{Book, book_code}
use Rattle.node_rules.specs.Memory.{StationMemory, Memory, CoordinatorSession}
use Rattle.node_rules.specs.Coordinators.{CoordinatorIdentity}
use Rattle.node_rules.specs.Ciphers.{network}
use Rattle.node_rules.specs.States.{State, station_state_code}
use Rattle.node_rules.specs.ComposedPlans.{seen}
use Rattle.coordinator.specs.SessionCodes.{rand_code, session_code}

-- The coordinator: its station, and what it keeps beside its station.
pub record CoordinatorState : Type 0 where
  pub station : State StationMemory
  pub randoms : List RandomOctets
  pub sessions : List CoordinatorSession
  pub book : Book

abbrev pub coordinator_code : Coded CoordinatorState
coordinator_code =
    code_by (State StationMemory × (List RandomOctets × (List CoordinatorSession × Book)))
    (coded× station_state_code (coded× (coded_list rand_code) (coded× (coded_list session_code) book_code)))
    (λ x. (x.station, (x.randoms, (x.sessions, x.book))))
    (λ t. record { station = t.0; randoms = t.1.0; sessions = t.1.1.0; book = t.1.1.1 }) (λ _. refl)

-- the memory of these parts; the coordinator has no session of a meter
abbrev pub memory_in : List RandomOctets → List CoordinatorSession → Book → StationMemory → Memory
memory_in randoms sessions book l =
    record { station = l; randoms = randoms; session = None; sessions = sessions; book = book }

-- the node of a station and these tables
abbrev pub state_in : State StationMemory → List RandomOctets → List CoordinatorSession → Book → State Memory
state_in s randoms sessions book = seen (memory_in randoms sessions book) s

-- the coordinator as a node
abbrev pub node_of : CoordinatorState → State Memory
node_of x = state_in x.station x.randoms x.sessions x.book

-- what its packets are made with
abbrev pub identity_of : CoordinatorState → CoordinatorIdentity
identity_of x = record { eui = x.station.eui; ciphers = network }
