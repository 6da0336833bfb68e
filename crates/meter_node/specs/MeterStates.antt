-- What a meter is seen as, and what it is as a node.
use Rattle.std.specs.Prelude.{List, [], Option, refl}
use Rattle.std.specs.Coded.{Coded, code_by, coded×, coded_list, coded_option}
use Rattle.plc_base.specs.declared.key.Key.{Key}
use Rattle.plc_base.specs.declared.key.RandomOctets.{RandomOctets}
use Rattle.node_rules.specs.Ciphers.{network}
use Rattle.node_rules.specs.Memory.{StationMemory, Memory, MeterSession}
use Rattle.node_rules.specs.Meters.{Identity}
use Rattle.node_rules.specs.States.{State, station_state_code}
use Rattle.node_rules.specs.ComposedPlans.{seen}
use Rattle.meter_node.specs.Sessions.{session_code, rand_code, key_code}

-- A meter: its station, its pair key, and what it keeps beside its station.
pub record MeterState : Type 0 where
  pub station : State StationMemory
  pub psk : Key
  pub randoms : List RandomOctets
  pub session : Option MeterSession

abbrev pub meter_code : Coded MeterState
meter_code =
    code_by (State StationMemory × (Key × (List RandomOctets × Option MeterSession)))
    (coded× station_state_code (coded× key_code (coded× (coded_list rand_code) (coded_option session_code))))
    (λ x. (x.station, (x.psk, (x.randoms, x.session))))
    (λ t. record { station = t.0; psk = t.1.0; randoms = t.1.1.0; session = t.1.1.1 }) (λ _. refl)

-- what it holds in memory, with this of its station; a meter has no session of the coordinator and no book
abbrev pub memory_with : MeterState → StationMemory → Memory
memory_with x l = record { station = l; randoms = x.randoms; session = x.session; sessions = []; book = [] }

-- the meter as a node
abbrev pub node_of : MeterState → State Memory
node_of x = seen (memory_with x) x.station

-- what its packets are made with
abbrev pub identity_of : MeterState → Identity
identity_of x = record { eui = x.station.eui; psk = x.psk; ciphers = network }
