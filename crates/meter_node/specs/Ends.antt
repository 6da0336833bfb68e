-- When a meter has to be told the time again.
use Rattle.std.specs.Prelude.{◌≡◌, ℕ, ◌<◌, Option, None}
use Rattle.std.specs.Option.{option_map_or}
use Rattle.node_rules.specs.Memory.{MeterSession}
use Rattle.node_rules.specs.Meters.{session_within}
use Rattle.plc_station.specs.NextEnds.{IsBefore, last_second}

-- a session, if one is open, lasts until after a time
abbrev pub Lasts : ℕ → Option MeterSession → Type 0
Lasts time session = option_map_or (session_within time) session None ≡ session

-- The first is the sooner of an end and of that of a session.
pub record IsSooner (end : Option ℕ) (session : Option MeterSession) (first : Option ℕ) : Type 0 where
  pub before : (time : ℕ) → IsBefore time first → IsBefore time end
  pub lasts : (time : ℕ) → IsBefore time first → Lasts time session
  pub ends : (time : ℕ) → time < last_second → IsBefore time end → Lasts time session → IsBefore time first
