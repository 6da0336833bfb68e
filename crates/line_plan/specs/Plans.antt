-- A description as a whole.
use Rattle.std.specs.Prelude.{ℕ, ◌&&◌, not, nat_le, List, [], ◌∷◌, ◌++◌}
use Rattle.std.specs.Prelude.{length, codes, Bool, if◌then◌else◌, Option, None, Some, Result, Ok, Err}
use Rattle.std.specs.List.{list_any}
use Rattle.std.specs.Str.{chars}
use Rattle.std.specs.Option.{option_and_then}
use Rattle.toml.specs.Data.{Data, Members, as_str, as_array, as_table}
use Rattle.plan_tables.specs.declared.keys.Key.TheVariants as keys
use Rattle.plan_tables.specs.declared.fault.Section.TheVariants as sections
use Rattle.plan_tables.specs.declared.fault.Wanted.TheVariants as wanted
use Rattle.plan_tables.specs.declared.fault.WrongValue.{WrongValue}
use Rattle.plan_tables.specs.declared.air_plan.AirPlan.{AirPlan}
use Rattle.plan_tables.specs.declared.tables.Joining.{Joining}
use Rattle.plan_tables.specs.declared.tables.Readings.{Readings}
use Rattle.plan_tables.specs.declared.tables.Rotation.{Rotation}
use Rattle.plan_tables.specs.declared.tables.Care.{Care}
use Rattle.plan_tables.specs.declared.places.PlacePlan.{PlacePlan}
use Rattle.plan_tables.specs.declared.incidents.Incident.{Incident}
use Rattle.line_plan.specs.declared.plan.OwnerPlan.{OwnerPlan}
use Rattle.line_plan.specs.declared.plan.Head.{Head}
use Rattle.line_plan.specs.declared.plan.Plan.{Plan}
use Rattle.plan_tables.specs.Faults.{TableAt, ◌>>=◌, get_at, value_at, number_at, seconds_at, inner_at}
use Rattle.plan_tables.specs.Tables.{joining_at, readings_at, rotation_at, care_at}
use Rattle.plan_tables.specs.AirPlans.{air_at}
use Rattle.plan_tables.specs.Places.{place_at, meters_of}
use Rattle.plan_tables.specs.Incidents.{incident_at}
use Rattle.plan_tables.specs.Links.{listed}
use Rattle.text_signs.specs.Signs.{is_control}

-- # The tables within the description

unfoldable pub air_of : TableAt → Result AirPlan WrongValue
air_of top = inner_at top keys.Air sections.Air >>= air_at

unfoldable pub joining_of : TableAt → Result Joining WrongValue
joining_of top = inner_at top keys.Joining sections.Joining >>= joining_at

unfoldable pub readings_of : TableAt → Result Readings WrongValue
readings_of top = inner_at top keys.Readings sections.Readings >>= readings_at

unfoldable pub rotation_of : TableAt → Result Rotation WrongValue
rotation_of top = inner_at top keys.Rotation sections.Rotation >>= rotation_at

unfoldable pub care_of : TableAt → Result Care WrongValue
care_of top = inner_at top keys.Care sections.Care >>= care_at

unfoldable pub place_of : TableAt → Result PlacePlan WrongValue
place_of top = inner_at top keys.Place sections.Place >>= place_at

-- what the owner of the line does
unfoldable pub owner_at : TableAt → Result OwnerPlan WrongValue
owner_at top = do
  joining ← joining_of top
  readings ← readings_of top
  rotation ← rotation_of top
  care ← care_of top
  Ok (record { joining = joining; readings = readings; rotation = rotation; care = care })

unfoldable pub head_at : TableAt → Result Head WrongValue
head_at top = do
  seed ← number_at top keys.Seed 1 9223372036854775807
  length ← seconds_at top keys.For 86400
  air ← air_of top
  owner ← owner_at top
  Ok (record { seed = seed; length = length; air = air; owner = owner })

-- # The title

-- one line of at most 200 octets: it stands in a remark of the script
abbrev pub is_line : List ℕ → Bool
is_line octets = nat_le (length octets) 200 && not (list_any is_control (chars octets))

abbrev pub line_only : List ℕ → Option (List ℕ)
line_only octets = if is_line octets then Some octets else None

unfoldable pub title_in : Data → Option (List ℕ)
title_in d = option_and_then line_only (as_str d)

unfoldable pub title_at : TableAt → Result (List ℕ) WrongValue
title_at top = value_at top keys.Title wanted.Line title_in (codes "a line")

-- # What happens

abbrev pub not_tables : WrongValue
not_tables = record { section = sections.Top; key = keys.At; wanted = wanted.Tables }

abbrev pub incident_of : PlacePlan → ℕ → ℕ → Option Members → Result Incident WrongValue
incident_of place meters nth None = Err not_tables
incident_of place meters nth (Some members) = incident_at meters place (record { section = sections.At nth; members = members })

-- the nth incident, of a line with this many meters
unfoldable pub incident_in : PlacePlan → ℕ → ℕ → Data → Result Incident WrongValue
incident_in place meters nth d = incident_of place meters nth (as_table d)

-- incidents, and those of more values
abbrev pub incidents_from : PlacePlan → ℕ → List Incident → List Data → Result (List Incident) WrongValue
incidents_from place meters incidents [] = Ok incidents
incidents_from place meters incidents (d ∷ ds) =
    incident_in place meters (length incidents) d >>= λ incident. incidents_from place meters (incidents ++ incident ∷ []) ds

abbrev pub incidents_of : PlacePlan → Option (List Data) → Result (List Incident) WrongValue
incidents_of place None = Err not_tables
incidents_of place (Some values) = incidents_from place (meters_of place) [] values

unfoldable pub incidents_in : PlacePlan → Data → Result (List Incident) WrongValue
incidents_in place d = incidents_of place (option_and_then (λ values. Some (listed values)) (as_array d))

abbrev pub incidents_or : PlacePlan → Option Data → Result (List Incident) WrongValue
incidents_or place None = Ok []
incidents_or place (Some d) = incidents_in place d

unfoldable pub incidents_at : PlacePlan → TableAt → Result (List Incident) WrongValue
incidents_at place top = incidents_or place (get_at top keys.At)

-- # The plan of a table

unfoldable pub plan_at : TableAt → Result Plan WrongValue
plan_at top = do
  head ← head_at top
  title ← title_at top
  place ← place_of top
  incidents ← incidents_at place top
  Ok (record { title = title; seed = head.seed; length = head.length; place = place; air = head.air; owner = head.owner; incidents = incidents })
