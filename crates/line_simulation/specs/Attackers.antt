-- Who attacks.
use Rattle.std.specs.Prelude.{Bool, true, false, List}
use Rattle.std.specs.List.{list_any}
use Rattle.plan_tables.specs.declared.incidents.Incident.{Incident}
use Rattle.plan_tables.specs.declared.incidents.What.{What}
use Rattle.plan_tables.specs.declared.incidents.What.TheVariants.{FramesReplayed, FramesDelayed, JoinsForged}

-- whether an attacker does it
abbrev pub is_attack : What → Bool
is_attack (FramesReplayed count) = true
is_attack (FramesDelayed seconds wait) = true
is_attack JoinsForged = true
is_attack _ = false

-- whether attackers are described
abbrev pub has_attackers : List Incident → Bool
has_attackers incidents = list_any (λ (i : Incident). is_attack i.what) incidents
