-- The readings of a run: which count for a meter, and that what came is the run's word.
use Rattle.std.specs.Prelude.{◌≡◌, ℕ, ◌-◌, ◌==◌, ◌&&◌, Bool, true, false, not, List, [], ◌∷◌, ◌++◌, Option, None, Some, IfSome, filter, is_some}
use Rattle.std.specs.List.{count_by, list_any, range_with_len}
use Rattle.std.specs.Prelude.{◌+◌, All, codes, length, map, if◌then◌else◌}
use Rattle.line_record.specs.declared.story.Story.{Story}
use Rattle.line_record.specs.RunRecords.{numbered}
use Rattle.sentence_parts.specs.Parts.{parts_text}
use Rattle.sentence_parts.specs.declared.part.Part.TheVariants as part
use Rattle.line_readings.specs.declared.csv.Cell.{Cell}
use Rattle.line_readings.specs.declared.csv.Cell.TheVariants as cell
use Rattle.line_readings.specs.declared.links.TheConstants.{LINKS_HEAD}
use Rattle.line_readings.specs.declared.meters.TheConstants.{METERS_HEAD}
use Rattle.line_readings.specs.declared.reading.Reading.{Reading}
use Rattle.line_readings.specs.declared.reading.Came.{Came}
use Rattle.line_readings.specs.Tables.{Row, row_text, rows_text}

-- # Meters

-- whether a node is among those that are nobody's meter
abbrev pub is_spare : ℕ → List ℕ → Bool
is_spare node spares = list_any (λ spare. spare == node) spares

-- of this many nodes from 1 on those that are somebody's, in the order of their numbers
abbrev pub metered : List ℕ → ℕ → List ℕ
metered spares count = filter (λ (node : ℕ). not (is_spare node spares)) (range_with_len 1 count)

-- the meters of a line of this many nodes: all but the coordinator and those that are nobody's
abbrev pub meters_of : List ℕ → ℕ → List ℕ
meters_of spares nodes = metered spares (nodes - 1)

-- with one more node, which is somebody's or not
abbrev pub with_node : Bool → ℕ → List ℕ → List ℕ
with_node true node meters = meters
with_node false node meters = meters ++ node ∷ []

-- # Counts

abbrev pub is_of : ℕ → Reading → Bool
is_of node reading = reading.node == node

abbrev pub has_come : ℕ → Reading → Bool
has_come node reading = is_of node reading && is_some reading.came

abbrev pub is_missing : ℕ → Reading → Bool
is_missing node reading = is_of node reading && not (is_some reading.came)

-- how many readings of a meter were due, came, and did not come
abbrev pub due_of : ℕ → List Reading → ℕ
due_of node readings = count_by (is_of node) readings

abbrev pub came_of : ℕ → List Reading → ℕ
came_of node readings = count_by (has_come node) readings

abbrev pub missing_of : ℕ → List Reading → ℕ
missing_of node readings = count_by (is_missing node) readings

-- # What came

-- the event at which the datagram of a story was handed up first, if it was
abbrev pub reached_by : Option Story → Option ℕ
reached_by None = None
reached_by (Some story) = story.reached

abbrev pub reached_in : List Story → ℕ → Option ℕ
reached_in stories number = reached_by (numbered stories number)

-- what came is the run's word, whatever a remark says: the datagram of one of its stories was handed up at that event
abbrev pub IsHandedUp : List Story → Option Came → Type 0
IsHandedUp stories came = IfSome came (λ (c : Came). (number : ℕ) × (reached_in stories number ≡ Some c.event))

abbrev pub IsTrueOf : List Story → Reading → Type 0
IsTrueOf stories reading = IsHandedUp stories reading.came

-- # The table of meters

-- a row of a meter: its name, how many readings were due, came and did not, and five cells more
pub record IsMeterRow (readings : List Reading) (row : Row) : Type 0 where
  pub name : List ℕ
  pub more : List Cell
  pub cells :
      row.others
      ≡ cell.Words name ∷ cell.Number (due_of row.node readings) ∷ cell.Number (came_of row.node readings)
      ∷ cell.Number (missing_of row.node readings) ∷ more
  pub width : length more ≡ 5
  pub sum : came_of row.node readings + missing_of row.node readings ≡ due_of row.node readings

-- a table with a row a meter, none left out, in their order
pub record HasRows (readings : List Reading) (meters : List ℕ) (text : List ℕ) : Type 0 where
  pub rows : List Row
  pub whole : text ≡ METERS_HEAD.now ++ rows_text rows
  pub nodes : map (λ (row : Row). row.node) rows ≡ meters
  pub each : All (IsMeterRow readings) rows

-- a row of this meter is appended
pub record AddsMeter (readings : List Reading) (node : ℕ) (old new : List ℕ) : Type 0 where
  pub others : List Cell
  pub row : IsMeterRow readings (record { node = node; others = others })
  pub added : new ≡ old ++ row_text node others

-- The table of the meters of a run that has these spare nodes, this many nodes and these stories: by readings of which each that came did so where
-- the run handed up the datagram of a story.
pub record IsMeterTable (spares : List ℕ) (nodes : ℕ) (stories : List Story) (text : List ℕ) : Type 0 where
  pub readings : List Reading
  pub came : All (IsTrueOf stories) readings
  pub rows : HasRows readings (meters_of spares nodes) text

-- # The table of links

-- a row of a link: the other node, frames, those given up, readings lost, and why
abbrev pub IsLinkRow : Row → Type 0
IsLinkRow row = length row.others ≡ 5

pub record IsLinkTable (text : List ℕ) : Type 0 where
  pub rows : List Row
  pub whole : text ≡ LINKS_HEAD.now ++ rows_text rows
  pub each : All IsLinkRow rows

-- # The first line

abbrev pub came_in : List Reading → ℕ
came_in readings = count_by (λ (reading : Reading). is_some reading.came) readings

-- how many readings came of how many, and what is said of those that are missing
abbrev pub headline_text : ℕ → ℕ → List ℕ → List ℕ
headline_text came due missing =
    parts_text
    (part.Number came ∷ part.Words (codes " of ") ∷ part.Number due ∷ part.Words (codes " readings came") ∷ part.Words missing
    ∷ part.Words (codes "\n") ∷ [])

abbrev pub headline_by : ℕ → ℕ → List ℕ → List ℕ
headline_by came due missing = if due == 0 then [] else headline_text came due missing

-- nothing where there are no readings
abbrev pub headline : List ℕ → List Reading → List ℕ
headline missing readings = headline_by (came_in readings) (length readings) missing

-- a line says of readings how many came; where all did it names no meter
pub record SaysOf (readings : List Reading) (text : List ℕ) : Type 0 where
  pub missing : List ℕ
  pub all : came_in readings ≡ length readings → missing ≡ []
  pub whole : text ≡ headline missing readings

-- a first line, by readings of which each that came did so where the run handed up the datagram of a story
pub record IsHeadline (stories : List Story) (text : List ℕ) : Type 0 where
  pub readings : List Reading
  pub came : All (IsTrueOf stories) readings
  pub says : SaysOf readings text
