-- A meter's session, as the rules have it.
use Rattle.std.specs.Prelude.{◌≡◌, ℕ, List, Option, Some, None, refl}
use Rattle.std.specs.Coded.{Coded, code_by, coded×, coded_ℕ, coded_list, coded_option}
use Rattle.plc_base.specs.declared.key.RandomOctets.{RandomOctets}
use Rattle.plc_base.specs.declared.key.Key.{Key}
use Rattle.eap_psk.specs.declared.peer.Peer.{Peer}
use Rattle.node_rules.specs.Memory as memory
use Rattle.meter_node.specs.declared.session.SessionWay.{SessionWay}
use Rattle.meter_node.specs.declared.session.SessionWay.TheVariants.{ByAgent, ByCommand}
use Rattle.meter_node.specs.declared.session.Session.{Session}

-- the course of a session
abbrev pub session_way_of : SessionWay → memory.SessionWay
session_way_of (ByAgent agent) = memory.ByAgent agent
session_way_of ByCommand = memory.ByCommand

abbrev pub session_of : Session → memory.MeterSession
session_of s = record { session_way = session_way_of s.session_way; peer = s.peer; since = s.since }

-- # How they are kept as values

-- a course is kept as its agent, if it has one
abbrev pub agent_of : memory.SessionWay → Option ℕ
agent_of (memory.ByAgent agent) = Some agent
agent_of memory.ByCommand = None

abbrev pub session_way_by : Option ℕ → memory.SessionWay
session_way_by (Some agent) = memory.ByAgent agent
session_way_by None = memory.ByCommand

pub session_way_back : (c : memory.SessionWay) → session_way_by (agent_of c) ≡ c
session_way_back (memory.ByAgent agent) = refl
session_way_back memory.ByCommand = refl

abbrev pub session_way_code : Coded memory.SessionWay
session_way_code = code_by (Option ℕ) (coded_option coded_ℕ) agent_of session_way_by (λ c. session_way_back c)

abbrev pub peer_code : Coded Peer
peer_code =
    code_by (List ℕ × (List ℕ × (List ℕ × List ℕ)))
    (coded× (coded_list coded_ℕ) (coded× (coded_list coded_ℕ) (coded× (coded_list coded_ℕ) (coded_list coded_ℕ))))
    (λ p. (p.eui.0, (p.id_s.0, (p.rand_s.0, p.rand_p.0))))
    (λ t. record {
      eui = record { 0 = t.0 };
      id_s = record { 0 = t.1.0 };
      rand_s = record { 0 = t.1.1.0 };
      rand_p = record { 0 = t.1.1.1 };
    }) (λ _. refl)

abbrev pub session_code : Coded memory.MeterSession
session_code =
    code_by (memory.SessionWay × (Option Peer × ℕ))
    (coded× session_way_code (coded× (coded_option peer_code) coded_ℕ)) (λ s. (s.session_way, (s.peer, s.since)))
    (λ t. record { session_way = t.0; peer = t.1.0; since = t.1.1 }) (λ _. refl)

abbrev pub rand_code : Coded RandomOctets
rand_code = code_by (List ℕ) (coded_list coded_ℕ) (λ r. r.0) (λ xs. record { 0 = xs }) (λ _. refl)

abbrev pub key_code : Coded Key
key_code = code_by (List ℕ) (coded_list coded_ℕ) (λ r. r.0) (λ xs. record { 0 = xs }) (λ _. refl)
