-- Who hears whom, as the description says it.
use Rattle.std.specs.Prelude.{ℕ, ◌*◌, ◌||◌, List, codes, Bool, true, false, nat_lt, if◌then◌else◌, Option, None, Some, is_some, Result, Ok, Err}
use Rattle.std.specs.Str.{bytes_eq}
use Rattle.std.specs.Option.{option_and_then}
use Rattle.toml.specs.Data.{Data, as_str}
use Rattle.line_place.specs.declared.link.Costs.{Costs}
use Rattle.line_place.specs.declared.link.Costs.TheVariants.{ByLoss, Same}
use Rattle.line_place.specs.declared.link.Losses.{Losses}
use Rattle.plan_tables.specs.declared.keys.Key.TheVariants as keys
use Rattle.plan_tables.specs.declared.fault.Wanted.TheVariants as wanted
use Rattle.plan_tables.specs.declared.fault.WrongValue.{WrongValue}
use Rattle.plan_tables.specs.declared.places.PlaceKind.{PlaceKind}
use Rattle.plan_tables.specs.declared.places.PlaceKind.TheVariants as kinds
use Rattle.plan_tables.specs.declared.places.Kind.{Kind}
use Rattle.plan_tables.specs.declared.places.Kind.TheVariants.{InStreet, InGrid, InTower, Scattered, Measured}
use Rattle.plan_tables.specs.declared.places.PlacePlan.{PlacePlan}
use Rattle.plan_tables.specs.Values.{number_from_one_to}
use Rattle.plan_tables.specs.Faults.{TableAt, ◌>>=◌, wrong_at, value_at, positive_at, chance_at}
use Rattle.line_place.specs.Distances.{street_far, grid_far, tower_far}
use Rattle.plan_tables.specs.Links.{matrix_at, farthest, has_link}

-- # Costs

abbrev pub cost_named : List ℕ → Option Costs
cost_named word = if bytes_eq word (codes "by loss") then Some ByLoss else None

abbrev pub cost_by : Option (List ℕ) → Data → Option Costs
cost_by (Some word) d = cost_named word
cost_by None d = option_and_then (λ cost. Some (Same cost)) (number_from_one_to 255 d)

unfoldable pub cost_in : Data → Option Costs
cost_in d = cost_by (as_str d) d

abbrev pub cost_at : TableAt → Result Costs WrongValue
cost_at table = value_at table keys.Cost wanted.Cost cost_in ByLoss

-- # Kinds

abbrev pub kind_named : List ℕ → Option PlaceKind
kind_named word =
    if bytes_eq word (codes "street") then Some kinds.Street
    else if bytes_eq word (codes "grid") then Some kinds.Grid
    else if bytes_eq word (codes "tower") then Some kinds.Tower
    else if bytes_eq word (codes "scatter") then Some kinds.Scatter
    else if bytes_eq word (codes "matrix") then Some kinds.Matrix
    else None

unfoldable pub kind_in : Data → Option PlaceKind
kind_in d = option_and_then kind_named (as_str d)

abbrev pub kind_at : TableAt → Result PlaceKind WrongValue
kind_at table = value_at table keys.Kind wanted.Word kind_in kinds.Street

-- whether the coordinator stands in the middle of the row
abbrev pub middle_named : List ℕ → Option Bool
middle_named word =
    if bytes_eq word (codes "end") then Some false
    else if bytes_eq word (codes "middle") then Some true
    else None

unfoldable pub middle_in : Data → Option Bool
middle_in d = option_and_then middle_named (as_str d)

abbrev pub middle_at : TableAt → Result Bool WrongValue
middle_at table = value_at table keys.Coordinator wanted.Word middle_in false

-- a line has 998 meters at most
abbrev pub meters_at : TableAt → Result ℕ WrongValue
meters_at table = positive_at table keys.Meters 60 998

abbrev pub reach_at : TableAt → Result ℕ WrongValue
reach_at table = positive_at table keys.Reach 3 1000

unfoldable pub street_at : TableAt → Result Kind WrongValue
street_at table = do
  middle ← middle_at table
  meters ← meters_at table
  reach ← reach_at table
  Ok (InStreet (record { meters = meters; reach = reach; middle = middle }))

unfoldable pub grid_at : TableAt → Result Kind WrongValue
grid_at table = do
  wide ← positive_at table keys.Wide 10 1000
  reach ← reach_at table
  meters ← meters_at table
  Ok (InGrid (record { wide = wide; reach = reach }) meters)

unfoldable pub tower_at : TableAt → Result Kind WrongValue
tower_at table = do
  risers ← positive_at table keys.Risers 1 998
  floors ← positive_at table keys.Floors 8 998
  flats ← positive_at table keys.Flats 3 998
  reach ← reach_at table
  if nat_lt 998 (risers * floors * flats) then Err (wrong_at table keys.Risers wanted.Flats)
      else Ok (InTower (record { floors = floors; flats = flats; reach = reach }) (risers * floors * flats))

unfoldable pub scatter_at : TableAt → Result Kind WrongValue
scatter_at table = do
  meters ← meters_at table
  wide ← positive_at table keys.Wide 20 1000
  high ← positive_at table keys.High 12 1000
  reach ← reach_at table
  Ok (Scattered (record { meters = meters; wide = wide; high = high; reach = reach }))

unfoldable pub losses_at : TableAt → Result Losses WrongValue
losses_at table = do
  nearest ← chance_at table keys.Loss 0
  step ← chance_at table keys.LossStep 500
  Ok (record { nearest = nearest; step = step })

-- the place of a kind
abbrev pub kind_of : Costs → TableAt → PlaceKind → Result Kind WrongValue
kind_of costs table kinds.Street = street_at table
kind_of costs table kinds.Grid = grid_at table
kind_of costs table kinds.Tower = tower_at table
kind_of costs table kinds.Scatter = scatter_at table
kind_of costs table kinds.Matrix = matrix_at costs table >>= λ links. Ok (Measured links)

unfoldable pub place_at : TableAt → Result PlacePlan WrongValue
place_at table = do
  losses ← losses_at table
  costs ← cost_at table
  kind ← kind_at table
  place ← kind_of costs table kind
  Ok (record { kind = place; losses = losses; costs = costs })

abbrev pub meters_in : Kind → ℕ
meters_in (InStreet street) = street.meters
meters_in (InGrid grid meters) = meters
meters_in (InTower tower meters) = meters
meters_in (Scattered field) = field.meters
meters_in (Measured links) = farthest links

abbrev pub meters_of : PlacePlan → ℕ
meters_of place = meters_in place.kind

-- whether a frame of a node reaches another, which it may where the nodes are scattered, since their spots are drawn
abbrev pub may_reach : Kind → ℕ → ℕ → Bool
may_reach (InStreet street) a b = is_some (street_far street a b)
may_reach (InGrid grid meters) a b = is_some (grid_far grid a b)
may_reach (InTower tower meters) a b = is_some (tower_far tower a b)
may_reach (Scattered field) a b = true
may_reach (Measured links) a b = has_link a b links

-- whether one of two nodes may hear the other
abbrev pub may_hear : PlacePlan → ℕ → ℕ → Bool
may_hear place a b = may_reach place.kind a b || may_reach place.kind b a
