-- A sequence chart.
use Rattle.std.specs.Prelude.{ℕ, ◌+◌, ◌-◌, ◌==◌, Bool, true, false, nat_lt, List, [], ◌∷◌, codes, length, position, Option, None, Some, if◌then◌else◌}
use Rattle.markup.specs.declared.names.Element.TheVariants as E
use Rattle.markup.specs.declared.names.Attribute.TheVariants as A
use Rattle.markup.specs.Markups.{Markup, Nothing, Words, Inside, Both, with_text, with_number}
use Rattle.frame_facts.specs.Kinds.{kind_word}
use Rattle.sentence_parts.specs.Parts.{node_text}
use Rattle.line_record.specs.declared.act.Act.{Act}
use Rattle.line_record.specs.declared.act.Act.TheVariants as acts
use Rattle.line_record.specs.declared.recorded.RecordedEvent.{RecordedEvent}
use Rattle.line_record.specs.declared.recorded.RecordedFlight.{RecordedFlight}
use Rattle.line_record.specs.Kinds.{actor_of}
use Rattle.line_record.specs.RunRecords.{numbered}
use Rattle.run_charts.specs.declared.row.Row.{Row}
use Rattle.run_charts.specs.declared.outcome.Outcome.{Outcome}
use Rattle.run_charts.specs.declared.outcome.Outcome.TheVariants as outcomes
use Rattle.run_charts.specs.Outcomes.{has_cross, outcome_of}
use Rattle.run_charts.specs.Runs.{Run, is_hushed, missed_at}
use Rattle.run_charts.specs.Rows.{flight_heard, last_row, line_after, members, number_at, rows_of}
use Rattle.run_charts.specs.Columns.{columns_of, doer_of}
use Rattle.run_charts.specs.RowSentences.{sayings}
use Rattle.run_charts.specs.Lives.{life}
use Rattle.run_charts.specs.Drawings.{arrow, column_x, cross, dot, half, label, line_y, numbers, passing, square}

-- # Places

abbrev pub is_node : ℕ → ℕ → Bool
is_node node other = other == node

abbrev pub x_by : Option ℕ → Option ℕ
x_by None = None
x_by (Some place) = Some (column_x place)

-- where the column of a node is, if it has one
unfoldable pub x_of : List ℕ → ℕ → Option ℕ
x_of columns node = x_by (position (is_node node) columns)

abbrev pub x_of_node : List ℕ → Option ℕ → Option ℕ
x_of_node columns None = None
x_of_node columns (Some node) = x_of columns node

-- half of a column to the other side
unfoldable pub label_x : ℕ → ℕ → ℕ
label_x from to = if nat_lt from to then from + 46 else from - 46

-- # Columns

unfoldable pub head : ℕ → ℕ → List ℕ → Markup
head place number name =
    Inside E.Text
    (with_text A.Class (codes "hd") ∷ with_number A.Node number ∷ with_number A.X (column_x place) ∷ with_number A.Y 20
    ∷ with_text A.Anchor (codes "middle") ∷ [])
    (Words name)

unfoldable pub name : ℕ → List ℕ
name number = node_text number

unfoldable pub column : Run → ℕ → ℕ → List ℕ → List Row → ℕ → Markup
column r place number events rows bottom = Both (head place number (name number)) (life r number (column_x place) events rows bottom)

-- the columns from a place on
abbrev pub columns_from : Run → ℕ → List ℕ → List ℕ → List Row → ℕ → Markup
columns_from r place [] events rows bottom = Nothing
columns_from r place (number ∷ numbers) events rows bottom =
    Both (column r place number events rows bottom) (columns_from r (place + 1) numbers events rows bottom)

-- # A flight that comes

abbrev pub dot_at : Option ℕ → ℕ → Markup
dot_at None y = Nothing
dot_at (Some x) y = dot outcomes.Overheard x y

abbrev pub other_dot : Option RecordedEvent → List ℕ → ℕ → Markup
other_dot None columns y = Nothing
other_dot (Some e) columns y = dot_at (x_of columns (actor_of e.act)) y

abbrev pub other_if : Bool → Run → List ℕ → ℕ → ℕ → Markup
other_if true r columns event y = other_dot (numbered r.events event) columns y
other_if false r columns event y = Nothing

-- a node that it is not for hears it
unfoldable pub other : Run → List ℕ → ℕ → ℕ → Markup
other r columns event y = other_if (is_hushed r event) r columns event y

abbrev pub others : Run → List ℕ → List ℕ → ℕ → Markup
others r columns [] y = Nothing
others r columns (event ∷ events) y = Both (other r columns event y) (others r columns events y)

abbrev pub cross_if : Bool → Outcome → ℕ → ℕ → Markup
cross_if true outcome x y = cross outcome x y
cross_if false outcome x y = Nothing

-- it comes to the node that it is for
unfoldable pub coming : Outcome → ℕ → ℕ → ℕ → Markup
coming outcome from to y = Both (arrow outcome from to y) (cross_if (has_cross outcome) outcome to y)

abbrev pub coming_at : Option ℕ → Outcome → ℕ → ℕ → Markup
coming_at None outcome from y = Nothing
coming_at (Some to) outcome from y = coming outcome from to y

abbrev pub half_at : Option ℕ → ℕ → ℕ → Markup
half_at None from y = Nothing
half_at (Some to) from y = half from to y

-- where it goes: to the node that hears it, or half way to the one that it is for and never came to
unfoldable pub goal_at : Run → List ℕ → ℕ → RecordedEvent → Option ℕ
goal_at r columns event e =
    if is_hushed r event then x_of_node columns (missed_at r (flight_heard e.act)) else x_of columns (actor_of e.act)

abbrev pub course_by : Bool → Option ℕ → Outcome → ℕ → ℕ → Markup
course_by true to outcome from y = half_at to from y
course_by false to outcome from y = coming_at to outcome from y

unfoldable pub course : Run → List ℕ → ℕ → RecordedEvent → ℕ → ℕ → Markup
course r columns event e from y = course_by (is_hushed r event) (goal_at r columns event e) (outcome_of e) from y

abbrev pub or_beside : Option ℕ → ℕ → ℕ
or_beside None from = from + 1
or_beside (Some to) from = to

unfoldable pub aim : Run → List ℕ → ℕ → RecordedEvent → ℕ → ℕ
aim r columns event e from = or_beside (goal_at r columns event e) from

unfoldable pub delivery_at : ℕ → RecordedFlight → Run → List ℕ → ℕ → RecordedEvent → ℕ → ℕ → Markup
delivery_at from frame r columns event e flight y =
    Both (dot (outcome_of e) from y)
    (Both (course r columns event e from y) (label (label_x from (aim r columns event e from)) y flight (kind_word frame.kind)))

abbrev pub delivery_from : Option ℕ → RecordedFlight → Run → List ℕ → ℕ → RecordedEvent → ℕ → ℕ → Markup
delivery_from None frame r columns event e flight y = Nothing
delivery_from (Some from) frame r columns event e flight y = delivery_at from frame r columns event e flight y

abbrev pub delivery_of : Option RecordedFlight → Run → List ℕ → ℕ → RecordedEvent → ℕ → ℕ → Markup
delivery_of None r columns event e flight y = Nothing
delivery_of (Some frame) r columns event e flight y = delivery_from (x_of columns frame.from) frame r columns event e flight y

unfoldable pub delivery : Run → List ℕ → ℕ → RecordedEvent → ℕ → ℕ → Markup
delivery r columns event e flight y = delivery_of (numbered r.flights flight) r columns event e flight y

-- # Other events

abbrev pub is_tick : Act → Bool
is_tick (acts.Tick seconds) = true
is_tick _ = false

abbrev pub square_at : Option ℕ → Outcome → ℕ → Markup
square_at None outcome y = Nothing
square_at (Some x) outcome y = square outcome x y

-- the right border
unfoldable pub width : List ℕ → ℕ
width columns = column_x (length columns) - 46

abbrev pub doing_by : Bool → List ℕ → RecordedEvent → ℕ → Markup
doing_by true columns e y = passing (width columns) y
doing_by false columns e y = square_at (x_of_node columns (doer_of e.act)) (outcome_of e) y

unfoldable pub doing : List ℕ → RecordedEvent → ℕ → Markup
doing columns e y = doing_by (is_tick e.act) columns e y

-- # Rows

-- the first flight that an event made
unfoldable pub first_made : RecordedEvent → ℕ
first_made e = if e.flights == 0 then 0 else e.first_flight

-- the flight that an event is about: the one that came, or the first one that it made
unfoldable pub flight_about : RecordedEvent → ℕ
flight_about e = if flight_heard e.act == 0 then first_made e else flight_heard e.act

abbrev pub drawing_by : Bool → Run → List ℕ → ℕ → RecordedEvent → ℕ → Markup
drawing_by true r columns event e y = doing columns e y
drawing_by false r columns event e y = delivery r columns event e (flight_heard e.act) y

unfoldable pub event_drawing : Run → List ℕ → ℕ → RecordedEvent → ℕ → Markup
event_drawing r columns event e y = drawing_by (flight_heard e.act == 0) r columns event e y

-- the first and the last event of a row; of a flight that came, the event that the row tells of
unfoldable pub first_shown : List ℕ → Row → ℕ → RecordedEvent → ℕ
first_shown events row event e = if flight_heard e.act == 0 then number_at events row.start else event

unfoldable pub last_shown : List ℕ → Row → ℕ → RecordedEvent → ℕ
last_shown events row event e = if flight_heard e.act == 0 then number_at events (row.end - 1) else event

unfoldable pub row_content : Run → List ℕ → List ℕ → Row → ℕ → RecordedEvent → ℕ → Markup
row_content r columns events row event e y =
    Both (numbers (first_shown events row event e) (last_shown events row event e) y)
    (Both (others r columns (members events row) y) (event_drawing r columns event e y))

unfoldable pub row_group : Run → List ℕ → List ℕ → Row → ℕ → RecordedEvent → ℕ → Markup
row_group r columns events row event e y = Inside E.Group (with_number A.Flight (flight_about e) ∷ []) (row_content r columns events row event e y)

abbrev pub row_by : Option RecordedEvent → Run → List ℕ → List ℕ → Row → ℕ → Markup
row_by None r columns events row event = Nothing
row_by (Some e) r columns events row event = row_group r columns events row event e (line_y row.line)

unfoldable pub row_drawing : Run → List ℕ → List ℕ → Row → Markup
row_drawing r columns events row =
    row_by (numbered r.events (number_at events row.main)) r columns events row (number_at events row.main)

abbrev pub rows_drawing : Run → List ℕ → List ℕ → List Row → Markup
rows_drawing r columns events [] = Nothing
rows_drawing r columns events (row ∷ rows) = Both (row_drawing r columns events row) (rows_drawing r columns events rows)

-- # The whole

unfoldable pub height : List Row → ℕ
height rows = line_y (line_after (last_row rows)) - 9

unfoldable pub drawing_content : Run → List ℕ → List ℕ → List Row → ℕ → Markup
drawing_content r columns events rows bottom =
    Both (columns_from r 0 columns events rows bottom) (rows_drawing r columns events rows)

unfoldable pub drawing : Run → List ℕ → List ℕ → List Row → Markup
drawing r columns events rows =
    Inside E.Svg
    (with_number A.Width (width columns) ∷ with_number A.Height (height rows) ∷ with_text A.Role (codes "img") ∷ [])
    (drawing_content r columns events rows (height rows - 4))

unfoldable pub chart_content : Run → List ℕ → List ℕ → List Row → Markup
chart_content r columns events rows = Both (drawing r columns events rows) (sayings r events rows)

unfoldable pub parts : Run → List ℕ → List ℕ → List Row → Markup
parts r columns events rows = Inside E.Division (with_text A.Class (codes "m") ∷ []) (chart_content r columns events rows)

-- a chart of some events, in this order
unfoldable pub chart : Run → List ℕ → Markup
chart r events = parts r (columns_of r events) events (rows_of r events)
