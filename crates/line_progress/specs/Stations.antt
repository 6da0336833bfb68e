-- The station of a node on a line.
use Rattle.std.specs.Prelude.{ℕ, Option}
use Rattle.std.specs.Option.{option_map, option_and_then}
use Rattle.node_rules.specs.Memory.{StationMemory, Memory, Node}
use Rattle.line_rules.specs.Worlds.{World, node_at}

-- what the node of a number holds on the line, where it runs
abbrev pub station_at : World → ℕ → Option StationMemory
station_at w number = option_and_then (λ (x : Node). option_map (λ (m : Memory). m.station) x.memory) (node_at w number)
