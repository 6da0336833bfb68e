-- What is drawn of a row. All numbers are pixels.
use Rattle.std.specs.Prelude.{ℕ, ◌+◌, ◌-◌, ◌*◌, ◌==◌, min, nat_lt, List, [], ◌∷◌, codes, if◌then◌else◌}
use Rattle.std.specs.Fmt.{decimal}
use Rattle.markup.specs.declared.names.Element.TheVariants as E
use Rattle.markup.specs.declared.names.Attribute.TheVariants as A
use Rattle.markup.specs.Markups.{Markup, Words, Leaf, Inside, Both, with_text, with_number}
use Rattle.sentence_parts.specs.declared.part.Part.TheVariants as part
use Rattle.sentence_parts.specs.Parts.{parts_text}
use Rattle.run_charts.specs.declared.outcome.Outcome.{Outcome}
use Rattle.run_charts.specs.declared.outcome.Outcome.TheVariants as outcomes
use Rattle.run_charts.specs.Outcomes.{fill_class, line_class}

-- # Places

-- where the column of a place is, from 0; a run has at most 1,000 nodes
unfoldable pub column_x : ℕ → ℕ
column_x place = 106 + 92 * min place 1000

-- where the row of a line is, from 0; a run has at most 50,000 events, each with a row and what the script says before it
unfoldable pub line_y : ℕ → ℕ
line_y line = 51 + 26 * min line 100000

-- # Outlines

-- from a height down to another one
unfoldable pub fall : ℕ → ℕ → ℕ → List ℕ
fall x top bottom =
    parts_text
    (part.Words (codes "M") ∷ part.Number x ∷ part.Words (codes " ") ∷ part.Number top ∷ part.Words (codes "V") ∷ part.Number bottom ∷ [])

-- from a place to another one of the same height
unfoldable pub level : ℕ → ℕ → ℕ → List ℕ
level from to y =
    parts_text
    (part.Words (codes "M") ∷ part.Number from ∷ part.Words (codes " ") ∷ part.Number y ∷ part.Words (codes "H") ∷ part.Number to ∷ [])

-- the head of an arrow, from its neck on
unfoldable pub tip : ℕ → ℕ → ℕ → List ℕ
tip neck to y =
    parts_text
    (part.Words (codes "M") ∷ part.Number to ∷ part.Words (codes " ") ∷ part.Number y ∷ part.Words (codes "L") ∷ part.Number neck
    ∷ part.Words (codes " ") ∷ part.Number (y - 4) ∷ part.Words (codes "V") ∷ part.Number (y + 4) ∷ part.Words (codes "z") ∷ [])

-- a line from a place to another one
unfoldable pub stroke : ℕ → ℕ → ℕ → ℕ → List ℕ
stroke from top to bottom =
    parts_text
    (part.Words (codes "M") ∷ part.Number from ∷ part.Words (codes " ") ∷ part.Number top ∷ part.Words (codes "L") ∷ part.Number to
    ∷ part.Words (codes " ") ∷ part.Number bottom ∷ [])

-- from the left border on
unfoldable pub whole_width : ℕ → ℕ → List ℕ
whole_width width y = parts_text (part.Words (codes "M54 ") ∷ part.Number y ∷ part.Words (codes "H") ∷ part.Number width ∷ [])

-- # Lines

unfoldable pub path : List ℕ → List ℕ → Markup
path class outline = Leaf E.Path (with_text A.Class class ∷ with_text A.Outline outline ∷ [])

unfoldable pub lifeline : List ℕ → ℕ → ℕ → ℕ → Markup
lifeline class x top bottom = path class (fall x top bottom)

-- an arrow whose head begins at its neck
unfoldable pub arrow_to : Outcome → ℕ → ℕ → ℕ → ℕ → Markup
arrow_to outcome from neck to y = Both (path (line_class outcome) (level from neck y)) (path (fill_class outcome) (tip neck to y))

-- an arrow from a column to another one
unfoldable pub arrow : Outcome → ℕ → ℕ → ℕ → Markup
arrow outcome from to y = if nat_lt from to then arrow_to outcome from (to - 9) to y else arrow_to outcome from (to + 9) to y

-- something ends there
unfoldable pub cross : Outcome → ℕ → ℕ → Markup
cross outcome x y =
    Both (path (line_class outcome) (stroke (x - 4) (y - 4) (x + 4) (y + 4))) (path (line_class outcome) (stroke (x + 4) (y - 4) (x - 4) (y + 4)))

unfoldable pub half_to : ℕ → ℕ → ℕ → Markup
half_to from to y = Both (path (codes "A half") (level from to y)) (cross outcomes.Refused to y)

-- the frame never came
unfoldable pub half : ℕ → ℕ → ℕ → Markup
half from to y = if nat_lt from to then half_to from (from + 56) y else half_to from (from - 56) y

-- time passes
unfoldable pub passing : ℕ → ℕ → Markup
passing width y = path (codes "T") (whole_width width y)

-- # Marks

unfoldable pub dot : Outcome → ℕ → ℕ → Markup
dot outcome x y =
    Leaf E.Circle (with_text A.Class (fill_class outcome) ∷ with_number A.CentreX x ∷ with_number A.CentreY y ∷ with_number A.Radius 3 ∷ [])

-- a rectangle, by its left upper corner
unfoldable pub bar : List ℕ → ℕ → ℕ → ℕ → ℕ → Markup
bar class x y width height =
    Leaf E.Rectangle
    (with_text A.Class class ∷ with_number A.X x ∷ with_number A.Y y ∷ with_number A.Width width ∷ with_number A.Height height ∷ [])

-- what a node does by itself, or is asked
unfoldable pub square : Outcome → ℕ → ℕ → Markup
square outcome x y = bar (fill_class outcome) (x - 5) (y - 5) 10 10

-- # Words

-- which frame an arrow is
unfoldable pub label : ℕ → ℕ → ℕ → List ℕ → Markup
label x y flight kind =
    Inside E.Text (with_text A.Class (codes "l") ∷ with_number A.X x ∷ with_number A.Y (y - 4) ∷ with_text A.Anchor (codes "middle") ∷ [])
    (Both (Words (decimal flight)) (Both (Words (codes " ")) (Words kind)))

unfoldable pub one_number : ℕ → ℕ → Markup
one_number event y =
    Inside E.Text (with_text A.Class (codes "c") ∷ with_number A.X 2 ∷ with_number A.Y y ∷ []) (Words (decimal event))

unfoldable pub two_numbers : ℕ → ℕ → ℕ → Markup
two_numbers first last y =
    Inside E.Text (with_text A.Class (codes "c") ∷ with_number A.X 2 ∷ with_number A.Y y ∷ [])
    (Both (Words (decimal first)) (Both (Words (226 ∷ 128 ∷ 147 ∷ [])) (Words (decimal last))))

-- the numbers of the events of a row
unfoldable pub numbers : ℕ → ℕ → ℕ → Markup
numbers first last y = if first == last then one_number first y else two_numbers first last y
