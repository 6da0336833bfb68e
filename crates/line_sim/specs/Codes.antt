-- How a recorder is kept as a value.
use Rattle.std.specs.Prelude.{ℕ, List, refl}
use Rattle.std.specs.Coded.{Coded, code_by, coded×, coded_ℕ, coded_list}
use Rattle.line_rules.specs.Worlds.{World}
use Rattle.line_world.specs.WorldCodes.{world_code}
use Rattle.line_sim.specs.Recorders.{Ordered, Recorded}

abbrev pub ordered_code : Coded Ordered
ordered_code =
    code_by (List ((ℕ × ℕ) × ℕ) × (ℕ × ℕ)) (coded× (coded_list (coded× (coded× coded_ℕ coded_ℕ) coded_ℕ)) (coded× coded_ℕ coded_ℕ))
    (λ o. (o.last, (o.second, o.remarked))) (λ t. record { last = t.0; second = t.1.0; remarked = t.1.1 }) (λ _. refl)

abbrev pub recorded_code : Coded Recorded
recorded_code =
    code_by (List ℕ × (World × Ordered)) (coded× (coded_list coded_ℕ) (coded× world_code ordered_code)) (λ r. (r.script, (r.world, r.order)))
    (λ t. record { script = t.0; world = t.1.0; order = t.1.1 }) (λ _. refl)
