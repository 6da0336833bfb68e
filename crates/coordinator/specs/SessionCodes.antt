-- How the sessions of the coordinator are kept as values.
use Rattle.std.specs.Prelude.{◌≡◌, ◌⊎◌, ℕ, List, Option, refl}
use mathlib.Core.Logic.{inl, inr}
use Rattle.std.specs.Coded.{Coded, code_by, coded×, coded⊎, coded_ℕ, coded_list, coded_option}
use Rattle.plc_base.specs.declared.address.Eui.{Eui}
use Rattle.plc_base.specs.declared.key.RandomOctets.{RandomOctets}
use Rattle.eap_psk.specs.declared.server.Server.{Server}
use Rattle.node_rules.specs.declared.heard.Way.{Way}
use Rattle.node_rules.specs.declared.heard.Way.TheVariants.{Air, Near, Mesh}
use Rattle.node_rules.specs.Memory.{CoordinatorSession}
use Rattle.node_rules.specs.States.{eui_code}

abbrev pub rand_code : Coded RandomOctets
rand_code = code_by (List ℕ) (coded_list coded_ℕ) (λ r. r.0) (λ xs. record { 0 = xs }) (λ _. refl)

abbrev pub way_parts : Way → Eui ⊎ (ℕ ⊎ ℕ)
way_parts (Air eui) = inl eui
way_parts (Near agent) = inr (inl agent)
way_parts (Mesh origin) = inr (inr origin)

abbrev pub way_of : Eui ⊎ (ℕ ⊎ ℕ) → Way
way_of (inl eui) = Air eui
way_of (inr (inl agent)) = Near agent
way_of (inr (inr origin)) = Mesh origin

pub way_back : (way : Way) → way_of (way_parts way) ≡ way
way_back (Air eui) = refl
way_back (Near agent) = refl
way_back (Mesh origin) = refl

abbrev pub way_code : Coded Way
way_code =
    code_by (Eui ⊎ (ℕ ⊎ ℕ))
    (coded⊎ eui_code (coded⊎ coded_ℕ coded_ℕ)) (λ w. way_parts w) (λ p. way_of p) (λ w. way_back w)

abbrev pub server_code : Coded Server
server_code =
    code_by (Eui × (Eui × (RandomOctets × Option RandomOctets)))
    (coded× eui_code (coded× eui_code (coded× rand_code (coded_option rand_code))))
    (λ s. (s.eui, (s.id_s, (s.rand_s, s.rand_p))))
    (λ t. record { eui = t.0; id_s = t.1.0; rand_s = t.1.1.0; rand_p = t.1.1.1 }) (λ _. refl)

abbrev pub session_code : Coded CoordinatorSession
session_code =
    code_by (Server × (Way × ℕ)) (coded× server_code (coded× way_code coded_ℕ)) (λ s. (s.server, (s.way, s.since)))
    (λ t. record { server = t.0; way = t.1.0; since = t.1.1 }) (λ _. refl)
