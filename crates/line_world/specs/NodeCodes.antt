-- How the nodes of a line are kept as values.
use Rattle.std.specs.Prelude.{◌≡◌, ℕ, Bool, List, Option, Some, None, refl}
use Rattle.std.specs.FinMap.{code}
use Rattle.std.specs.Coded.{Coded, code_by, coded×, coded_ℕ, coded_bool, coded_list, coded_option}
use Rattle.plc_base.specs.declared.address.Eui.{Eui}
use Rattle.plc_base.specs.declared.keeper.Cut.{Cut}
use Rattle.plc_base.specs.declared.key.Key.{Key}
use Rattle.plc_base.specs.declared.key.RandomOctets.{RandomOctets}
use Rattle.plc_base.specs.Keeper.{Records}
use Rattle.group_keys.specs.KeyBook.{Book, book_code}
use Rattle.node_rules.specs.Memory.{StationMemory, MeterSession, CoordinatorSession, Memory, Role, Coordinator, Meter, Stored, Node}
use Rattle.node_rules.specs.MemoryCodes.{station_code}
use Rattle.node_rules.specs.States.{eui_code}
use Rattle.meter_node.specs.Sessions as meter_sessions
use Rattle.coordinator.specs.SessionCodes as coordinator_sessions

-- the pair key of a meter, which the coordinator does not have
abbrev pub psk_in : Role → Option Key
psk_in Coordinator = None
psk_in (Meter psk) = Some psk

abbrev pub role_by : Option Key → Role
role_by None = Coordinator
role_by (Some psk) = Meter psk

pub role_back : (role : Role) → role_by (psk_in role) ≡ role
role_back Coordinator = refl
role_back (Meter psk) = refl

abbrev pub role_code : Coded Role
role_code =
    code_by (Option Key) (coded_option meter_sessions.key_code) (λ r. psk_in r) (λ p. role_by p) (λ r. role_back r)

abbrev pub cut_code : Coded Cut
cut_code =
    code_by (ℕ × Bool) (coded× coded_ℕ coded_bool) (λ c. (c.nth, c.keeps_new))
    (λ p. record { nth = p.0; keeps_new = p.1 }) (λ _. refl)

abbrev pub stored_code : Coded Stored
stored_code =
    code_by (Records × Option Cut) (coded× (code coded_ℕ (coded_list coded_ℕ)) (coded_option cut_code))
    (λ s. (s.records, s.cut)) (λ p. record { records = p.0; cut = p.1 }) (λ _. refl)

abbrev pub memory_code : Coded Memory
memory_code =
    code_by (StationMemory × (List RandomOctets × (Option MeterSession × (List CoordinatorSession × Book))))
    (coded× station_code (coded× (coded_list meter_sessions.rand_code)
    (coded× (coded_option meter_sessions.session_code)
    (coded× (coded_list coordinator_sessions.session_code) book_code))))
    (λ m. (m.station, (m.randoms, (m.session, (m.sessions, m.book)))))
    (λ t. record { station = t.0; randoms = t.1.0; session = t.1.1.0; sessions = t.1.1.1.0; book = t.1.1.1.1 })
    (λ _. refl)

abbrev pub node_code : Coded Node
node_code =
    code_by (Role × (Eui × (Stored × Option Memory)))
    (coded× role_code (coded× eui_code (coded× stored_code (coded_option memory_code))))
    (λ x. (x.role, (x.eui, (x.store, x.memory))))
    (λ t. record { role = t.0; eui = t.1.0; store = t.1.1.0; memory = t.1.1.1 }) (λ _. refl)
