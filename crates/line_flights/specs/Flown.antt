-- The frames that flew on a line, and the pair tags that were made.
use Rattle.std.specs.Prelude.{ℕ, ◌-◌, ◌==◌, Bool, false, List, Option, None, Some, slice_get, if◌then◌else◌}
use Rattle.std.specs.Option.{option_map_or}
use Rattle.plc_base.specs.declared.key.Key.{Key}
use Rattle.plc_base.specs.declared.tags.PairTag.{PairTag}
use Rattle.group_keys.specs.KeyBook.{same_key}
use Rattle.line_flights.specs.Flights.{Flight}

-- the flights by their numbers from 1, how many more may be added, and how many octets those may have together
pub record Flown : Type 0 where
  pub flights : List Flight
  pub places : ℕ
  pub room : ℕ

-- the pair tags in the order in which they were made, and how many more may be added
pub record Made : Type 0 where
  pub tags : List PairTag
  pub places : ℕ

-- the flight of a number
abbrev pub flight_in : List Flight → ℕ → Option Flight
flight_in flights number = if number == 0 then None else slice_get flights (number - 1)

-- the same, where it was not lost
abbrev pub not_lost : Option Flight → Option Flight
not_lost None = None
not_lost (Some f) = if f.lost then None else Some f

-- whether a flight with this key, if any, was sealed under that one
abbrev pub is_under : Option Key → Key → Bool
is_under own key = option_map_or (same_key key) own false
