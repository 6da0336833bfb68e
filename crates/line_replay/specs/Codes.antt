-- How the worlds of a replay and of a drill are kept as values.
use Rattle.std.specs.Prelude.{ℕ, Bool, refl}
use Rattle.std.specs.Coded.{Coded, code_by, coded×, coded_ℕ, coded_bool}
use Rattle.line_rules.specs.Worlds.{World}
use Rattle.line_world.specs.WorldCodes.{world_code}
use Rattle.line_replay.specs.Replay.{Playing}
use Rattle.line_replay.specs.Drills.{Drilling}

abbrev pub playing_code : Coded Playing
playing_code =
    code_by (Bool × World) (coded× coded_bool world_code) (λ p. (p.quiet, p.world))
    (λ t. record { quiet = t.0; world = t.1 }) (λ _. refl)

abbrev pub drilling_code : Coded Drilling
drilling_code =
    code_by (World × ℕ) (coded× world_code coded_ℕ) (λ d. (d.world, d.drained))
    (λ t. record { world = t.0; drained = t.1 }) (λ _. refl)
