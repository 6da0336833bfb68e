-- The map of a run: who hears whom, what each node was at the end, and its next hop to the coordinator.
use Rattle.std.specs.Prelude.{ℕ, ◌+◌, ◌-◌, min, nat_le, zero, suc, Bool, true, false, List, [], ◌∷◌, codes, length, slice_get}
use Rattle.std.specs.Prelude.{Option, None, Some}
use Rattle.std.specs.Fmt.{decimal}
use Rattle.markup.specs.declared.names.Element.TheVariants as E
use Rattle.markup.specs.declared.names.Attribute.TheVariants as A
use Rattle.markup.specs.Markups.{Markup, Nothing, Words, Leaf, Inside, Both, with_text, with_number}
use Rattle.sentence_parts.specs.declared.part.Part.TheVariants as part
use Rattle.sentence_parts.specs.Parts.{parts_text}
use Rattle.line_record.specs.declared.recorded.RecordedEvent.{RecordedEvent}
use Rattle.line_record.specs.declared.recorded.RecordedFlight.{RecordedFlight}
use Rattle.line_record.specs.declared.mode.Mode.{Mode}
use Rattle.line_record.specs.declared.mode.Mode.TheVariants as modes
use Rattle.line_record.specs.declared.past.Change.{Change}
use Rattle.line_record.specs.Pasts.{NodePast, changes_at}
use Rattle.run_maps.specs.declared.links.Heard.{Heard}
use Rattle.run_maps.specs.declared.links.Link.{Link}
use Rattle.run_maps.specs.declared.layout.Spot.{Spot}
use Rattle.run_maps.specs.declared.tie.PlacedTie.{PlacedTie}
use Rattle.run_maps.specs.Links.{heard_list, links_of}
use Rattle.run_maps.specs.Searches.{search_of}
use Rattle.run_maps.specs.Layouts.{Layout, height_of, layout_of, radius_of, spot, width_of}
use Rattle.run_maps.specs.Routes.{routes}
use Rattle.run_maps.specs.Ties.{costs_if, has_costs, lines, placed_ties, titled}

-- # A node

-- what a node was at the end
abbrev pub last_mode : Option Change → Mode
last_mode None = modes.Out
last_mode (Some change) = change.mode

abbrev pub mode_at_end : List Change → Mode
mode_at_end changes = last_mode (slice_get changes (length changes - 1))

abbrev pub node_class : Mode → List ℕ
node_class modes.Out = codes "N out"
node_class modes.Key0 = codes "N k0"
node_class modes.Key1 = codes "N k1"
node_class modes.Halted = codes "N halt"

unfoldable pub circle : List ℕ → ℕ → ℕ → Spot → Markup
circle class radius node spot =
    Leaf E.Circle
    (with_text A.Class class ∷ with_number A.Node node ∷ with_number A.CentreX spot.x ∷ with_number A.CentreY spot.y
    ∷ with_number A.Radius radius ∷ [])

unfoldable pub number_at : ℕ → ℕ → ℕ → Markup
number_at node x y =
    Inside E.Text (with_number A.Node node ∷ with_number A.X x ∷ with_number A.Y y ∷ with_text A.Anchor (codes "middle") ∷ [])
    (Words (decimal node))

unfoldable pub number_in : ℕ → Spot → Markup
number_in node spot = number_at node spot.x (min spot.y 1000000 + 4)

abbrev pub number_if : Bool → ℕ → Spot → Markup
number_if false node spot = Nothing
number_if true node spot = number_in node spot

-- up to 120 nodes
abbrev pub has_numbers : Layout → Bool
has_numbers l = nat_le l.nodes 120

unfoldable pub node_drawing : Layout → Mode → ℕ → Spot → Markup
node_drawing l mode node spot = Both (circle (node_class mode) (radius_of l) node spot) (number_if (has_numbers l) node spot)

abbrev pub node_by : Option Spot → Layout → Mode → ℕ → Markup
node_by None l mode node = Nothing
node_by (Some spot) l mode node = node_drawing l mode node spot

unfoldable pub node_at : Layout → List NodePast → ℕ → Markup
node_at l pasts node = node_by (spot l node) l (mode_at_end (changes_at pasts node)) node

-- this many nodes
abbrev pub nodes : Layout → List NodePast → ℕ → Markup
nodes l pasts zero = Nothing
nodes l pasts (suc node) = Both (nodes l pasts node) (node_at l pasts node)

-- # The whole

-- what a screen reader says of it
unfoldable pub title_words : ℕ → ℕ → List ℕ
title_words nodes links =
    parts_text
    (part.Words (codes "Who hears whom, and each next hop to the coordinator (nodes: ") ∷ part.Number nodes ∷ part.Words (codes ", links: ") ∷ part.Number links
    ∷ part.Words (codes ")") ∷ [])

unfoldable pub title : ℕ → ℕ → Markup
title nodes links = titled (title_words nodes links)

-- the lines, over them the arrows and the costs, and the nodes on top
unfoldable pub content : ℕ → List PlacedTie → Layout → List NodePast → List ℕ → Markup
content links ties l pasts homes =
    Both (title l.nodes links)
    (Both (lines ties) (Both (routes l pasts homes) (Both (costs_if (has_costs l) ties) (nodes l pasts l.nodes))))

unfoldable pub drawing : ℕ → List PlacedTie → Layout → List NodePast → List ℕ → Markup
drawing links ties l pasts homes =
    Inside E.Svg
    (with_number A.Width (width_of l) ∷ with_number A.Height (height_of l) ∷ with_text A.Role (codes "img") ∷ [])
    (content links ties l pasts homes)

-- a map shows at most 1,000 nodes
abbrev pub nodes_of : List NodePast → ℕ
nodes_of pasts = min (length pasts) 1000

unfoldable pub layout_by : List Heard → ℕ → Layout
layout_by heards nodes = layout_of nodes (search_of nodes heards)

unfoldable pub map_over : List ((ℕ × ℕ) × Link) → List Heard → Layout → List NodePast → List ℕ → Markup
map_over links heards l pasts homes = drawing (length heards) (placed_ties links l heards) l pasts homes

unfoldable pub map_by : List ((ℕ × ℕ) × Link) → List NodePast → List ℕ → Markup
map_by links pasts homes = map_over links (heard_list links) (layout_by (heard_list links) (nodes_of pasts)) pasts homes

-- the map of a run, by the node of each short address
unfoldable pub run_map : List RecordedEvent → List RecordedFlight → List NodePast → List ℕ → Markup
run_map events flights pasts homes = map_by (links_of events flights) pasts homes
