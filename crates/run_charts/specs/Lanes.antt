-- Each node over a run: a lane a node, coloured by what it was, with a mark for each two pixels, the worst that happened there.
use Rattle.std.specs.Prelude.{ℕ, ◌+◌, ◌-◌, ◌*◌, ◌/◌, ◌%◌, ◌==◌, ◌&&◌, min, nat_le, zero, suc, Bool, true, false, List, [], ◌∷◌, ◌++◌}
use Rattle.std.specs.Prelude.{codes, length, slice_get, Option, None, Some, if◌then◌else◌}
use Rattle.std.specs.Fmt.{decimal}
use Rattle.markup.specs.declared.names.Element.TheVariants as E
use Rattle.markup.specs.declared.names.Attribute.TheVariants as A
use Rattle.markup.specs.Markups.{Markup, Nothing, Words, Inside, Both, with_text, with_number}
use Rattle.line_record.specs.declared.mode.Mode.{Mode}
use Rattle.line_record.specs.declared.mode.Mode.TheVariants as modes
use Rattle.line_record.specs.declared.past.Change.{Change}
use Rattle.line_record.specs.Pasts.{changes_at}
use Rattle.sentence_parts.specs.declared.part.Part.TheVariants as part
use Rattle.sentence_parts.specs.Parts.{parts_text}
use Rattle.line_record.specs.declared.recorded.RecordedEvent.{RecordedEvent}
use Rattle.run_charts.specs.declared.lanes.LaneSize.{LaneSize}
use Rattle.run_charts.specs.declared.lanes.LaneSize.TheVariants as sizes
use Rattle.run_charts.specs.declared.outcome.Outcome.{Outcome}
use Rattle.run_charts.specs.declared.outcome.Outcome.TheVariants as outcomes
use Rattle.run_charts.specs.Cells.{cell_of, rank_of, ranks_of}
use Rattle.run_charts.specs.Charts.{is_tick}
use Rattle.run_charts.specs.Charts as names
use Rattle.run_charts.specs.Drawings.{bar, path}
use Rattle.run_charts.specs.Runs.{Run, is_silent}

-- # Places

-- how high the lanes of this many nodes are
unfoldable pub size_of : ℕ → LaneSize
size_of nodes = if nat_le nodes 24 then sizes.High else (if nat_le nodes 120 then sizes.Middle else sizes.Low)

abbrev pub height_of : LaneSize → ℕ
height_of sizes.High = 16
height_of sizes.Middle = 9
height_of sizes.Low = 4

-- where the lane of a node begins
abbrev pub y_of : ℕ → LaneSize → ℕ
y_of node sizes.High = 20 + 16 * min node 1000
y_of node sizes.Middle = 20 + 9 * min node 1000
y_of node sizes.Low = 20 + 4 * min node 1000

-- where the name of a node is, from the beginning of its lane on
abbrev pub name_drop : LaneSize → ℕ
name_drop sizes.High = 13
name_drop sizes.Middle = 6
name_drop sizes.Low = 6

-- where the event at a place is, from 0 among this many
unfoldable pub x_of : ℕ → ℕ → ℕ
x_of place events = 92 + 2 * cell_of place events

-- # Lanes

abbrev pub mode_class : Mode → List ℕ
mode_class modes.Out = codes "F out"
mode_class modes.Key0 = codes "F k0"
mode_class modes.Key1 = codes "F k1"
mode_class modes.Halted = codes "F halt"

-- from a change to the place of the next one
unfoldable pub change_drawing : ℕ → LaneSize → ℕ → Change → ℕ → Markup
change_drawing events size node change next =
    bar (mode_class change.mode) (x_of (change.event - 1) events) (y_of node size + 1)
    (x_of next events - x_of (change.event - 1) events) (height_of size - 2)

abbrev pub next_by : Option Change → ℕ → ℕ
next_by None events = events
next_by (Some change) events = change.event - 1

-- where the change of a number is among this many events; their end, where there is none
abbrev pub next_at : List Change → ℕ → ℕ → ℕ
next_at list number events = next_by (slice_get list number) events

-- the changes of a node, from a place on among all
abbrev pub changes_from : ℕ → LaneSize → ℕ → List Change → ℕ → List Change → Markup
changes_from events size node all place [] = Nothing
changes_from events size node all place (change ∷ rest) =
    Both (change_drawing events size node change (next_at all (place + 1) events)) (changes_from events size node all (place + 1) rest)

unfoldable pub words_at : ℕ → ℕ → List ℕ → Markup
words_at node y words =
    Inside E.Text (with_number A.Node node ∷ with_number A.X 86 ∷ with_number A.Y y ∷ with_text A.Anchor (codes "end") ∷ []) (Words words)

unfoldable pub name : ℕ → LaneSize → Markup
name node size = words_at node (y_of node size + name_drop size) (names.name node)

-- of many nodes each tenth has its name
abbrev pub has_name : ℕ → LaneSize → Bool
has_name node sizes.High = true
has_name node sizes.Middle = node % 10 == 0
has_name node sizes.Low = node % 10 == 0

abbrev pub name_if : Bool → ℕ → LaneSize → Markup
name_if true node size = name node size
name_if false node size = Nothing

unfoldable pub changes : ℕ → LaneSize → ℕ → List Change → Markup
changes events size node list = changes_from events size node list 0 list

unfoldable pub lane : Run → LaneSize → ℕ → Markup
lane r size node = Both (name_if (has_name node size) node size) (changes (length r.events) size node (changes_at r.pasts node))

-- the lanes of this many nodes
abbrev pub lanes_of : Run → LaneSize → ℕ → Markup
lanes_of r size zero = Nothing
lanes_of r size (suc node) = Both (lanes_of r size node) (lane r size node)

-- # Ticks

unfoldable pub tick_outline : ℕ → ℕ → List ℕ
tick_outline x bottom = parts_text (part.Words (codes "M") ∷ part.Number x ∷ part.Words (codes " 14V") ∷ part.Number bottom ∷ [])

unfoldable pub tick_line : ℕ → ℕ → Markup
tick_line x bottom = path (codes "T") (tick_outline x bottom)

unfoldable pub tick_words : ℕ → ℕ → Markup
tick_words x clock =
    Inside E.Text (with_text A.Class (codes "c") ∷ with_number A.X (x + 2) ∷ with_number A.Y 12 ∷ [])
    (Both (Words (decimal clock)) (Words (codes " s")))

abbrev pub tick : ℕ → ℕ → ℕ → Markup
tick x bottom clock = Both (tick_line x bottom) (tick_words x clock)

-- whether an event is a tick that is far enough from the one before it: it is from this place on
unfoldable pub is_shown : RecordedEvent → ℕ → ℕ → Bool
is_shown e x free = is_tick e.act && nat_le free x

abbrev pub tick_if : Bool → ℕ → ℕ → ℕ → Markup
tick_if true x bottom clock = tick x bottom clock
tick_if false x bottom clock = Nothing

abbrev pub free_after : Bool → ℕ → ℕ → ℕ
free_after true x free = x + 84
free_after false x free = free

-- the ticks of these events, the first of them at this place among all
abbrev pub ticks_from : ℕ → List RecordedEvent → ℕ → ℕ → List RecordedEvent → Markup
ticks_from place all free bottom [] = Nothing
ticks_from place all free bottom (e ∷ events) =
    Both (tick_if (is_shown e (x_of place (length all)) free) (x_of place (length all)) bottom e.clock)
    (ticks_from (place + 1) all
    (free_after (is_shown e (x_of place (length all)) free) (x_of place (length all)) free) bottom events)

-- # Marks

abbrev pub mark_class : Outcome → List ℕ
mark_class outcomes.Fine = codes "K"
mark_class outcomes.Good = codes "K up"
mark_class outcomes.Refused = codes "K no"
mark_class outcomes.Forged = codes "K f"
mark_class outcomes.Overheard = codes "K q"

-- how high a mark is: of what a node only overhears, a little at the bottom of its lane
abbrev pub mark_size : Outcome → LaneSize → ℕ
mark_size outcomes.Overheard size = 2
mark_size outcome size = height_of size - 2

-- from a place down this many pixels
unfoldable pub downwards : ℕ → ℕ → ℕ → List ℕ
downwards x y pixels =
    parts_text
    (part.Words (codes "M") ∷ part.Number x ∷ part.Words (codes " ") ∷ part.Number y ∷ part.Words (codes "v") ∷ part.Number pixels ∷ [])

unfoldable pub mark_text : LaneSize → ℕ → ℕ → List ℕ
mark_text size mark cell = downwards (93 + 2 * (cell % 590)) (y_of (cell / 590) size + height_of size - 1 - mark) mark

abbrev pub mark_if : Bool → LaneSize → ℕ → ℕ → List ℕ
mark_if true size mark cell = mark_text size mark cell
mark_if false size mark cell = []

-- the marks of one rank, in the cells from this one on
abbrev pub outline_from : LaneSize → ℕ → ℕ → ℕ → List ℕ → List ℕ
outline_from size mark rank cell [] = []
outline_from size mark rank cell (other ∷ ranks) = mark_if (other == rank) size mark cell ++ outline_from size mark rank (cell + 1) ranks

unfoldable pub outline_of : LaneSize → List ℕ → Outcome → List ℕ
outline_of size ranks outcome = outline_from size (mark_size outcome size) (rank_of outcome) 0 ranks

abbrev pub path_if : Bool → List ℕ → List ℕ → Markup
path_if true class outline = Nothing
path_if false class outline = path class outline

unfoldable pub marks_by : List ℕ → Outcome → Markup
marks_by outline outcome = path_if (is_silent outline) (mark_class outcome) outline

unfoldable pub marks : LaneSize → List ℕ → Outcome → Markup
marks size ranks outcome = marks_by (outline_of size ranks outcome) outcome

unfoldable pub top_marks : LaneSize → List ℕ → Markup
top_marks size ranks = Both (marks size ranks outcomes.Good) (Both (marks size ranks outcomes.Refused) (marks size ranks outcomes.Forged))

-- what matters most lies on top
unfoldable pub all_marks : LaneSize → List ℕ → Markup
all_marks size ranks = Both (marks size ranks outcomes.Overheard) (Both (marks size ranks outcomes.Fine) (top_marks size ranks))

-- # The whole

unfoldable pub ticks : List RecordedEvent → ℕ → Markup
ticks events bottom = ticks_from 0 events 0 bottom events

unfoldable pub drawing_content : Run → LaneSize → List ℕ → Markup
drawing_content r size ranks =
    Both (lanes_of r size (min (length r.pasts) 1000)) (Both (ticks r.events (y_of (length r.pasts) size)) (all_marks size ranks))

unfoldable pub drawing : Run → LaneSize → List ℕ → Markup
drawing r size ranks =
    Inside E.Svg
    (with_number A.Width 1280 ∷ with_number A.Height (y_of (length r.pasts) size + 8) ∷ with_text A.Role (codes "img") ∷ [])
    (drawing_content r size ranks)

unfoldable pub lanes : Run → Markup
lanes r = drawing r (size_of (length r.pasts)) (ranks_of (length r.pasts) r.events)
