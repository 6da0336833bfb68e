-- The first key that a table may not have.
use Rattle.std.specs.Prelude.{ℕ, ◌+◌, ◌-◌, ◌/◌, ◌^◌, nat_lt, nat_le, nat_eq, ◌&&◌, List, [], ◌∷◌, length, Bool}
use Rattle.std.specs.Prelude.{false, ◌||◌, if◌then◌else◌, Option, None, Some, option_map, Result, Ok, Err}
use Rattle.std.specs.Str.{bytes_eq, chars}
use Rattle.std.specs.Option.{option_and_then}
use Rattle.strsim.specs.Edits.{levenshtein_row}
use Rattle.toml.specs.Data.{Data, Members, no_members, member, as_table, as_array}
use Rattle.plan_tables.specs.declared.keys.Key.{Key}
use Rattle.plan_tables.specs.declared.keys.Key.TheVariants as keys
use Rattle.plan_tables.specs.declared.keys.KeySet.{KeySet}
use Rattle.plan_tables.specs.declared.keys.KeySet.TheVariants as sets
use Rattle.plan_tables.specs.declared.fault.Section.{Section}
use Rattle.plan_tables.specs.declared.fault.Section.TheVariants as sections
use Rattle.plan_tables.specs.declared.fault.WrongValue.{WrongValue}
use Rattle.plan_tables.specs.declared.fault.Meant.{Meant}
use Rattle.plan_tables.specs.declared.fault.Meant.TheVariants.{Here, There, Nothing}
use Rattle.plan_tables.specs.declared.places.PlaceKind.{PlaceKind}
use Rattle.plan_tables.specs.declared.places.PlaceKind.TheVariants as places
use Rattle.plan_tables.specs.declared.incidents.WhatKind.{WhatKind}
use Rattle.plan_tables.specs.declared.incidents.WhatKind.TheVariants as incidents
use Rattle.line_plan.specs.declared.unknown.Unknown.{Unknown}
use Rattle.line_plan.specs.declared.unknown.Nearest.{Nearest}
use Rattle.plan_tables.specs.Keys.{key_word, keys_of, all_tables}
use Rattle.text_signs.specs.declared.quotes.TheConstants.{MOST_QUOTED}
use Rattle.plan_tables.specs.Faults.{get_at}
use Rattle.plan_tables.specs.Places.{kind_at}
use Rattle.plan_tables.specs.Incidents.{what_at}
use Rattle.plan_tables.specs.Links.{listed}

-- A key that a table may not have.
pub record UnknownAt : Type 0 where
  pub section : Section
  pub key : List ℕ
  pub known : KeySet

abbrev pub unknown_view : Unknown → UnknownAt
unknown_view unknown = record { section = unknown.section; key = unknown.key.now; known = unknown.known }

-- the first, where there is one
abbrev pub or_else : Option UnknownAt → Option UnknownAt → Option UnknownAt
or_else (Some unknown) other = Some unknown
or_else None other = other

-- whether a key is among some
abbrev pub is_known : List Key → List ℕ → Bool
is_known [] key = false
is_known (one ∷ known) key = bytes_eq (key_word one) key || is_known known key

-- the first key that is not among some
abbrev pub first_stranger : List Key → List (List ℕ) → Option (List ℕ)
first_stranger known [] = None
first_stranger known (key ∷ names) = if is_known known key then first_stranger known names else Some key

abbrev pub names_of : Members → List (List ℕ)
names_of no_members = []
names_of (member key d members) = key ∷ names_of members

abbrev pub stranger : List Key → Members → Option (List ℕ)
stranger known members = first_stranger known (names_of members)

unfoldable pub unknown_at : Section → KeySet → Members → Option UnknownAt
unknown_at section known members = option_map (λ key. record { section = section; key = key; known = known }) (stranger (keys_of known) members)

-- the table of a name, where there is one
unfoldable pub table_within : Key → Members → Option Members
table_within key members = option_and_then as_table (get_at (record { section = sections.Top; members = members }) key)

unfoldable pub unknown_within : Key → Section → KeySet → Members → Option UnknownAt
unknown_within key section known members = option_and_then (unknown_at section known) (table_within key members)

-- # The place

abbrev pub place_keys : PlaceKind → KeySet
place_keys places.Street = sets.Street
place_keys places.Grid = sets.Grid
place_keys places.Tower = sets.Tower
place_keys places.Scatter = sets.Scatter
place_keys places.Matrix = sets.Matrix

abbrev pub unknown_by_kind : Result PlaceKind WrongValue → Members → Option UnknownAt
unknown_by_kind (Ok kind) table = unknown_at sections.Place (place_keys kind) table
unknown_by_kind (Err _) _ = None

abbrev pub unknown_in_place : Members → Option UnknownAt
unknown_in_place members = unknown_by_kind (kind_at (record { section = sections.Place; members = members })) members

unfoldable pub unknown_of_place : Members → Option UnknownAt
unknown_of_place top = option_and_then unknown_in_place (table_within keys.Place top)

-- # The incidents

abbrev pub incident_keys : WhatKind → KeySet
incident_keys incidents.Power = sets.Power
incident_keys incidents.Torn = sets.Torn
incident_keys incidents.Noise = sets.Noise
incident_keys incidents.LinkDown = sets.LinkDown
incident_keys incidents.Kick = sets.Kick
incident_keys incidents.Rekey = sets.Rekey
incident_keys incidents.Replay = sets.Replay
incident_keys incidents.Delay = sets.Delay
incident_keys incidents.FalseJoins = sets.FalseJoins

abbrev pub unknown_by_what : ℕ → Result WhatKind WrongValue → Members → Option UnknownAt
unknown_by_what nth (Ok kind) table = unknown_at (sections.At nth) (incident_keys kind) table
unknown_by_what nth (Err _) _ = None

abbrev pub unknown_in_incident : ℕ → Members → Option UnknownAt
unknown_in_incident nth members = unknown_by_what nth (what_at (record { section = sections.At nth; members = members })) members

unfoldable pub unknown_of_incident : ℕ → Data → Option UnknownAt
unknown_of_incident nth d = option_and_then (unknown_in_incident nth) (as_table d)

abbrev pub unknown_of_incidents : ℕ → List Data → Option UnknownAt
unknown_of_incidents nth [] = None
unknown_of_incidents nth (d ∷ ds) = or_else (unknown_of_incident nth d) (unknown_of_incidents (nth + 1) ds)

abbrev pub unknown_in_list : Data → Option UnknownAt
unknown_in_list d = option_and_then (λ values. unknown_of_incidents 0 (listed values)) (as_array d)

unfoldable pub unknown_among : Members → Option UnknownAt
unknown_among top = option_and_then unknown_in_list (get_at (record { section = sections.Top; members = top }) keys.At)

-- # The description

unfoldable pub unknown_of_owner : Members → Option UnknownAt
unknown_of_owner top =
    or_else (unknown_within keys.Joining sections.Joining sets.Joining top)
    (or_else (unknown_within keys.Readings sections.Readings sets.Readings top)
    (or_else (unknown_within keys.Rotation sections.Rotation sets.Rotation top)
    (unknown_within keys.Care sections.Care sets.Care top)))

unfoldable pub unknown_of_line : Members → Option UnknownAt
unknown_of_line top =
    or_else (unknown_at sections.Top sets.Top top)
    (or_else (unknown_of_place top) (unknown_within keys.Air sections.Air sets.Air top))

unfoldable pub unknown_in : Members → Option UnknownAt
unknown_in top = or_else (unknown_of_line top) (or_else (unknown_of_owner top) (unknown_among top))

-- # The key that may be meant

-- how many edits lead from a word to a key
abbrev pub edits : List ℕ → Key → ℕ
edits word key = levenshtein_row nat_eq (chars word) (chars (key_word key)) (length (chars (key_word key)))

-- before any key is looked at
abbrev pub farthest : Nearest
farthest = record { known = sets.Top; key = keys.Title; edits = 2 ^ 64 - 1 }

abbrev pub nearer : Nearest → Nearest → Nearest
nearer before next = if nat_lt next.edits before.edits then next else before

-- the nearest after keys of a table too: the first with the fewest edits
abbrev pub nearest_in : List ℕ → KeySet → Nearest → List Key → Nearest
nearest_in word known before [] = before
nearest_in word known before (key ∷ more) =
    nearest_in word known (nearer before (record { known = known; key = key; edits = edits word key })) more

-- the nearest after the keys of tables too
abbrev pub nearest_among : List ℕ → Nearest → List KeySet → Nearest
nearest_among word before [] = before
nearest_among word before (known ∷ more) = nearest_among word (nearest_in word known before (keys_of known)) more

-- a key is near where two edits lead to it, and the half of the word's octets
abbrev pub is_near : List ℕ → Nearest → Bool
is_near word nearest = nat_le nearest.edits 2 && nat_le nearest.edits (length word / 2)

-- one of the same table where it is near, else one of all tables; a word that is longer than what is quoted means none
abbrev pub meant_by : KeySet → List ℕ → Meant
meant_by known word =
    let here = nearest_in word known farthest (keys_of known) in
    let there = nearest_among word farthest all_tables in
    if nat_lt MOST_QUOTED (length word) then Nothing
    else if is_near word here then Here here.key
    else if is_near word there then There there.known there.key
    else Nothing
