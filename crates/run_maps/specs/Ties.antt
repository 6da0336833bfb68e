-- What is drawn of the links: one line for two nodes, whether one of them hears the other one or both do.
use Rattle.std.specs.Prelude.{ℕ, ◌+◌, ◌/◌, min, nat_lt, nat_le, Bool, true, false, List, [], ◌∷◌, ◌++◌, codes, Option, None, Some, if◌then◌else◌}
use Rattle.std.specs.Fmt.{decimal}
use Rattle.markup.specs.declared.names.Element.TheVariants as E
use Rattle.markup.specs.declared.names.Attribute.TheVariants as A
use Rattle.markup.specs.Markups.{Markup, Nothing, Words, Inside, Both, with_text, with_number}
use Rattle.sentence_parts.specs.declared.part.Part.TheVariants as part
use Rattle.sentence_parts.specs.Parts.{parts_text}
use Rattle.run_maps.specs.declared.links.Heard.{Heard}
use Rattle.run_maps.specs.declared.links.Link.{Link}
use Rattle.run_maps.specs.declared.layout.Spot.{Spot}
use Rattle.run_maps.specs.declared.tie.PlacedTie.{PlacedTie}
use Rattle.run_maps.specs.declared.tie.Tie.{Tie}
use Rattle.run_maps.specs.Links.{link_at}
use Rattle.run_maps.specs.Layouts.{Layout, spot}

-- # Two nodes

-- the less of two costs, where they are known
abbrev pub least_of : Option ℕ → Option ℕ → Option ℕ
least_of None other = other
least_of (Some least) None = Some least
least_of (Some least) (Some other) = Some (min least other)

abbrev pub one_way : Heard → Tie
one_way heard = record { from = heard.from; to = heard.to; least = heard.link.least; frames = heard.link.frames; both = false }

abbrev pub both_ways : Heard → Link → Tie
both_ways heard back =
    record {
      from = heard.from;
      to = heard.to;
      least = least_of heard.link.least back.least;
      frames = min heard.link.frames 2000000 + min back.frames 2000000;
      both = true;
    }

-- by the link back, if there is one: then the first of the two nodes has the line
abbrev pub tie_by : Option Link → Heard → Option Tie
tie_by None heard = Some (one_way heard)
tie_by (Some back) heard = if nat_lt heard.to heard.from then None else Some (both_ways heard back)

-- the line of a link, if that has one
unfoldable pub tie_of : List ((ℕ × ℕ) × Link) → Heard → Option Tie
tie_of links heard = tie_by (link_at heard.to heard.from links) heard

-- # A line

-- how thick it is: one more where its count of frames has two bits more
abbrev pub thickness : ℕ → ℕ
thickness frames =
    if nat_lt frames 2 then 1 else (if nat_lt frames 8 then 2 else (if nat_lt frames 32 then 3 else (if nat_lt frames 128 then 4 else
    (if nat_lt frames 512 then 5 else 6))))

-- dashed where only one of the nodes hears the other one
abbrev pub dash : Bool → List ℕ
dash true = []
dash false = codes " one"

unfoldable pub tie_class : Tie → List ℕ
tie_class tie = parts_text (part.Words (codes "W w") ∷ part.Number (thickness tie.frames) ∷ part.Words (dash tie.both) ∷ [])

unfoldable pub straight : Spot → Spot → List ℕ
straight a b =
    parts_text
    (part.Words (codes "M") ∷ part.Number a.x ∷ part.Words (codes " ") ∷ part.Number a.y ∷ part.Words (codes "L") ∷ part.Number b.x
    ∷ part.Words (codes " ") ∷ part.Number b.y ∷ [])

abbrev pub hearing : Bool → List ℕ
hearing true = codes " and "
hearing false = codes " is heard by "

unfoldable pub known_words : Tie → ℕ → List ℕ
known_words tie least =
    parts_text
    (part.Node tie.from ∷ part.Words (hearing tie.both) ∷ part.Node tie.to ∷ part.Words (codes ": cost ") ∷ part.Number least
    ∷ part.Words (codes ", frames: ") ∷ part.Number tie.frames ∷ [])

unfoldable pub unknown_words : Tie → List ℕ
unknown_words tie =
    parts_text (part.Node tie.from ∷ part.Words (hearing tie.both) ∷ part.Node tie.to ∷ part.Words (codes ": a route, no frame") ∷ [])

abbrev pub words_by : Option ℕ → Tie → List ℕ
words_by None tie = unknown_words tie
words_by (Some least) tie = known_words tie least

-- what is said of it
unfoldable pub tie_words : Tie → List ℕ
tie_words tie = words_by tie.least tie

unfoldable pub titled_path : List ℕ → List ℕ → List ℕ → Markup
titled_path class outline words =
    Inside E.Path (with_text A.Class class ∷ with_text A.Outline outline ∷ []) (Inside E.Title [] (Words words))

-- what is said of a drawing, or of a part of it
unfoldable pub titled : List ℕ → Markup
titled words = Inside E.Title [] (Words words)

-- # Its cost

unfoldable pub cost_at : ℕ → ℕ → ℕ → Markup
cost_at x y least =
    Inside E.Text (with_text A.Class (codes "c H") ∷ with_number A.X x ∷ with_number A.Y y ∷ with_text A.Anchor (codes "middle") ∷ [])
    (Words (decimal least))

-- between two numbers
abbrev pub middle : ℕ → ℕ → ℕ
middle a b = (min a 1000000 + min b 1000000) / 2

unfoldable pub cost_between : Spot → Spot → ℕ → Markup
cost_between a b least = cost_at (middle a.x b.x) (middle a.y b.y) least

abbrev pub cost_by : Option ℕ → Spot → Spot → Markup
cost_by None a b = Nothing
cost_by (Some least) a b = cost_between a b least

-- # Lines with their places

abbrev pub placed_by : Option Spot → Option Spot → Tie → List PlacedTie
placed_by None b tie = []
placed_by (Some a) None tie = []
placed_by (Some a) (Some b) tie = record { tie = tie; a = a; b = b } ∷ []

-- a line, if its nodes have a place
unfoldable pub placed_tie : Layout → Tie → List PlacedTie
placed_tie l tie = placed_by (spot l tie.from) (spot l tie.to) tie

abbrev pub placed_if : Option Tie → Layout → List PlacedTie
placed_if None l = []
placed_if (Some tie) l = placed_tie l tie

unfoldable pub placed_heard : List ((ℕ × ℕ) × Link) → Layout → Heard → List PlacedTie
placed_heard links l heard = placed_if (tie_of links heard) l

abbrev pub placed_ties : List ((ℕ × ℕ) × Link) → Layout → List Heard → List PlacedTie
placed_ties links l [] = []
placed_ties links l (heard ∷ rest) = placed_heard links l heard ++ placed_ties links l rest

-- # All lines, and all costs

unfoldable pub line : PlacedTie → Markup
line placed = titled_path (tie_class placed.tie) (straight placed.a placed.b) (tie_words placed.tie)

abbrev pub lines : List PlacedTie → Markup
lines [] = Nothing
lines (placed ∷ rest) = Both (line placed) (lines rest)

unfoldable pub cost_of : PlacedTie → Markup
cost_of placed = cost_by placed.tie.least placed.a placed.b

abbrev pub costs : List PlacedTie → Markup
costs [] = Nothing
costs (placed ∷ rest) = Both (cost_of placed) (costs rest)

-- up to 20 nodes
abbrev pub has_costs : Layout → Bool
has_costs l = nat_le l.nodes 20

abbrev pub costs_if : Bool → List PlacedTie → Markup
costs_if false ties = Nothing
costs_if true ties = costs ties
