-- The lifelines of a chart: what a node is, row by row.
use Rattle.std.specs.Prelude.{ℕ, ◌+◌, ◌-◌, nat_le, Bool, true, false, List, [], ◌∷◌, ◌++◌, codes, length, slice_get, Option, None, Some, if◌then◌else◌}
use Rattle.markup.specs.Markups.{Markup, Nothing, Both}
use Rattle.line_record.specs.declared.mode.Mode.{Mode}
use Rattle.line_record.specs.declared.mode.Mode.TheVariants as modes
use Rattle.line_record.specs.declared.past.Change.{Change}
use Rattle.line_record.specs.Pasts.{changes_at, is_same}
use Rattle.run_charts.specs.declared.life.Stretch.{Stretch}
use Rattle.run_charts.specs.declared.row.Row.{Row}
use Rattle.run_charts.specs.Runs.{Run}
use Rattle.run_charts.specs.Rows.{number_at}
use Rattle.run_charts.specs.Drawings.{lifeline, line_y}

abbrev pub mode_class : Mode → List ℕ
mode_class modes.Out = codes "L out"
mode_class modes.Key0 = codes "L k0"
mode_class modes.Key1 = codes "L k1"
mode_class modes.Halted = codes "L halt"

abbrev pub life_class : Option Mode → List ℕ
life_class None = codes "L none"
life_class (Some mode) = mode_class mode

-- # What a node is after an event

unfoldable pub mode_with : Change → ℕ → Option Mode → Option Mode
mode_with change event mode = if nat_le change.event event then Some change.mode else mode

abbrev pub mode_from : List Change → ℕ → Option Mode → Option Mode
mode_from [] event mode = mode
mode_from (change ∷ changes) event mode = mode_from changes event (mode_with change event mode)

-- by its changes in their order
unfoldable pub mode_after : List Change → ℕ → Option Mode
mode_after changes event = mode_from changes event None

-- # Stretches

abbrev pub is_as : Option Mode → Option Mode → Bool
is_as None None = true
is_as (Some mode) (Some other) = is_same mode other
is_as None (Some other) = false
is_as (Some mode) None = false

abbrev pub ends_as : Option Stretch → Option Mode → Bool
ends_as None mode = false
ends_as (Some last) mode = is_as last.mode mode

-- a node is this from a height on
unfoldable pub with_mode : ℕ → Option Mode → List Stretch → List Stretch
with_mode top mode list =
    if ends_as (slice_get list (length list - 1)) mode then list else list ++ (record { top = top; mode = mode } ∷ [])

-- from a row on
unfoldable pub with_row : List Change → List ℕ → Row → List Stretch → List Stretch
with_row changes events row list = with_mode (line_y row.line) (mode_after changes (number_at events (row.end - 1))) list

abbrev pub with_rows : List Change → List ℕ → List Row → List Stretch → List Stretch
with_rows changes events [] list = list
with_rows changes events (row ∷ rows) list = with_rows changes events rows (with_row changes events row list)

-- before the first event of a chart
unfoldable pub first_stretch : List Change → List ℕ → List Stretch
first_stretch changes events = with_mode 30 (mode_after changes (number_at events 0 - 1)) []

unfoldable pub stretches_of : List Change → List ℕ → List Row → List Stretch
stretches_of changes events rows = with_rows changes events rows (first_stretch changes events)

-- # Lines

abbrev pub end_by : Option Stretch → ℕ → ℕ
end_by None bottom = bottom
end_by (Some next) bottom = next.top

abbrev pub end_of : List Stretch → ℕ → ℕ → ℕ
end_of list place bottom = end_by (slice_get list place) bottom

unfoldable pub stretch_line : ℕ → Stretch → ℕ → Markup
stretch_line x stretch bottom = lifeline (life_class stretch.mode) x stretch.top bottom

-- the stretches from a place on, among all
abbrev pub stretches_from : ℕ → List Stretch → ℕ → ℕ → List Stretch → Markup
stretches_from x all bottom place [] = Nothing
stretches_from x all bottom place (stretch ∷ list) =
    Both (stretch_line x stretch (end_of all (place + 1) bottom)) (stretches_from x all bottom (place + 1) list)

unfoldable pub all_stretches : ℕ → List Stretch → ℕ → Markup
all_stretches x list bottom = stretches_from x list bottom 0 list

-- the lifeline of a node, down to a height
unfoldable pub life : Run → ℕ → ℕ → List ℕ → List Row → ℕ → Markup
life r node x events rows bottom = all_stretches x (stretches_of (changes_at r.pasts node) events rows) bottom
