-- Which events of a chart make a row.
use Rattle.std.specs.Prelude.{ℕ, ◌+◌, ◌-◌, ◌==◌, ◌&&◌, ◌||◌, zero, suc, min, Bool, true, false}
use Rattle.std.specs.Prelude.{not, List, [], ◌∷◌, ◌++◌, length, take, drop, slice_get, slice_set}
use Rattle.std.specs.Prelude.{Option, None, Some, if◌then◌else◌}
use Rattle.line_record.specs.declared.act.Act.{Act}
use Rattle.line_record.specs.declared.act.Act.TheVariants as acts
use Rattle.line_record.specs.declared.recorded.RecordedEvent.{RecordedEvent}
use Rattle.line_record.specs.Kinds.{is_setup, prepares}
use Rattle.line_record.specs.RunRecords.{numbered}
use Rattle.run_charts.specs.declared.row.Row.{Row}
use Rattle.run_charts.specs.declared.row.Joint.{Joint}
use Rattle.run_charts.specs.declared.row.Joint.TheVariants as joints
use Rattle.run_charts.specs.Runs.{Run, is_hushed, is_silent, note}

-- # Events that belong together

-- the flight that comes to a node at an event, 0 where none does
abbrev pub flight_heard : Act → ℕ
flight_heard (acts.Deliver flight node cost) = flight
flight_heard _ = 0

abbrev pub is_one : Option ℕ → Bool
is_one None = false
is_one (Some node) = true

abbrev pub prepares_one : Act → Bool
prepares_one act = is_one (prepares act)

-- whether both are lines of the setup, or both ready nodes for a joining
unfoldable pub is_alike : Act → Act → Bool
is_alike act other = (is_setup act && is_setup other) || (prepares_one act && prepares_one other)

unfoldable pub is_same_flight : Act → Act → Bool
is_same_flight act other = flight_heard act == flight_heard other && not (flight_heard act == 0)

-- how an event stands to the one that the row before it tells of
unfoldable pub joint_between : RecordedEvent → Bool → RecordedEvent → Bool → Joint
joint_between recorded hushed main main_hushed =
    if is_alike recorded.act main.act then joints.Along
    else (if not (is_same_flight recorded.act main.act) then joints.Apart
    else (if hushed then joints.Along
    else (if main_hushed then joints.Over else joints.Apart)))

abbrev pub joint_by : Option RecordedEvent → Option RecordedEvent → Bool → Bool → Joint
joint_by (Some recorded) (Some main) hushed main_hushed = joint_between recorded hushed main main_hushed
joint_by (Some recorded) None hushed main_hushed = joints.Apart
joint_by None main hushed main_hushed = joints.Apart

-- that of the events of two numbers; what the script says something before begins a row
unfoldable pub joint_of : Run → ℕ → ℕ → Joint
joint_of r event main =
    if not (is_silent (note r event)) then joints.Apart
    else joint_by (numbered r.events event) (numbered r.events main) (is_hushed r event) (is_hushed r main)

-- # The events of a row

abbrev pub number_or_0 : Option ℕ → ℕ
number_or_0 None = 0
number_or_0 (Some number) = number

unfoldable pub number_at : List ℕ → ℕ → ℕ
number_at numbers place = number_or_0 (slice_get numbers place)

unfoldable pub members : List ℕ → Row → List ℕ
members events row = take (row.end - row.start) (drop row.start events)

-- # Rows

abbrev pub note_lines : List ℕ → ℕ
note_lines words = if is_silent words then 0 else 1

abbrev pub line_after : Option Row → ℕ
line_after None = 0
line_after (Some row) = min row.line 100000 + 1

abbrev pub last_row : List Row → Option Row
last_row rows = slice_get rows (length rows - 1)

-- a row begins with the event at a place
unfoldable pub row_begun : Run → ℕ → ℕ → List Row → List Row
row_begun r event place rows =
    rows ++ (record { start = place; end = place + 1; main = place; line = line_after (last_row rows) + note_lines (note r event) } ∷ [])

-- a row with the event at a place more, if that belongs to it
abbrev pub joined_row : Joint → Row → ℕ → Option Row
joined_row joints.Apart row place = None
joined_row joints.Along row place = Some (record { start = row.start; end = place + 1; main = row.main; line = row.line })
joined_row joints.Over row place = Some (record { start = row.start; end = place + 1; main = place; line = row.line })

abbrev pub with_joined : Option Row → Run → ℕ → ℕ → List Row → List Row
with_joined None r event place rows = row_begun r event place rows
with_joined (Some row) r event place rows = slice_set rows (length rows - 1) row

abbrev pub with_event_by : Option Row → Run → List ℕ → ℕ → List Row → List Row
with_event_by None r events place rows = row_begun r (number_at events place) place rows
with_event_by (Some last) r events place rows =
    with_joined (joined_row (joint_of r (number_at events place) (number_at events last.main)) last place) r (number_at events place) place rows

-- with the event at a place of the list
unfoldable pub with_event : Run → List ℕ → ℕ → List Row → List Row
with_event r events place rows = with_event_by (last_row rows) r events place rows

-- with this many events of the list
abbrev pub with_events : Run → List ℕ → ℕ → List Row
with_events r events zero = []
with_events r events (suc place) = with_event r events place (with_events r events place)

unfoldable pub rows_of : Run → List ℕ → List Row
rows_of r events = with_events r events (length events)
