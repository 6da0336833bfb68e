-- What is drawn of the routes to the coordinator: an arrow from each node that shows one to its next hop.
use Rattle.std.specs.Prelude.{ℕ, ◌+◌, min, zero, suc, Bool, true, false, List, [], ◌∷◌, codes, slice_get, Option, None, Some, if◌then◌else◌}
use Rattle.markup.specs.declared.names.Element.TheVariants as E
use Rattle.markup.specs.declared.names.Attribute.TheVariants as A
use Rattle.markup.specs.Markups.{Markup, Nothing, Leaf, Inside, Both, with_text, with_number}
use Rattle.sentence_parts.specs.declared.part.Part.TheVariants as part
use Rattle.sentence_parts.specs.Parts.{parts_text}
use Rattle.line_record.specs.Pasts.{NodePast, next_hop_at}
use Rattle.run_maps.specs.declared.layout.Spot.{Spot}
use Rattle.run_maps.specs.Layouts.{Layout, is_tree, radius_of, spot}
use Rattle.run_maps.specs.Ties.{straight, titled}

-- # Next hops

abbrev pub home_by : Option ℕ → List ℕ → Option ℕ
home_by None homes = None
home_by (Some address) homes = slice_get homes address

-- the node that is the next hop of another one, by the node of each short address
abbrev pub hop_of : List NodePast → List ℕ → ℕ → Option ℕ
hop_of pasts homes node = home_by (next_hop_at pasts node) homes

-- # An arrow

-- thinner where there are many
abbrev pub route_class : Bool → List ℕ
route_class true = codes "R"
route_class false = codes "R thin"

-- where its head ends, in widths of the line: before the circle of the next hop
unfoldable pub tip : Layout → ℕ
tip l = if is_tree l.nodes then 14 else 7 + min (radius_of l) 15

unfoldable pub head_path : Markup
head_path = Leaf E.Path (with_text A.Class (codes "Z") ∷ with_text A.Outline (codes "M0 -3L6 0L0 3z") ∷ [])

-- it has the direction of its line
unfoldable pub head_marker : ℕ → Markup
head_marker tip =
    Inside E.Marker (with_text A.Id (codes "hop") ∷ with_text A.Orientation (codes "auto") ∷ with_number A.ReferenceX tip ∷ []) head_path

-- the head of all arrows
unfoldable pub head : ℕ → Markup
head tip = Inside E.Definitions [] (head_marker tip)

unfoldable pub route_words : ℕ → ℕ → List ℕ
route_words node hop =
    parts_text
    (part.Words (codes "route of ") ∷ part.Node node ∷ part.Words (codes " to the coordinator, next hop ") ∷ part.Node hop ∷ [])

unfoldable pub arrow : List ℕ → List ℕ → List ℕ → Markup
arrow class outline words =
    Inside E.Path
    (with_text A.Class class ∷ with_text A.Outline outline ∷ with_text A.MarkerEnd (codes "url(#hop)") ∷ [])
    (titled words)

unfoldable pub route_between : Layout → ℕ → ℕ → Spot → Spot → Markup
route_between l node hop a b = arrow (route_class (is_tree l.nodes)) (straight a b) (route_words node hop)

-- # All arrows

abbrev pub route_by : Option Spot → Option Spot → Layout → ℕ → ℕ → Markup
route_by None b l node hop = Nothing
route_by (Some a) None l node hop = Nothing
route_by (Some a) (Some b) l node hop = route_between l node hop a b

-- between the places of two nodes, if they have one
unfoldable pub route_to : Layout → ℕ → ℕ → Markup
route_to l node hop = route_by (spot l node) (spot l hop) l node hop

abbrev pub route_if : Option ℕ → Layout → ℕ → Markup
route_if None l node = Nothing
route_if (Some hop) l node = route_to l node hop

unfoldable pub route_of : Layout → List NodePast → List ℕ → ℕ → Markup
route_of l pasts homes node = route_if (hop_of pasts homes node) l node

-- those of this many nodes
abbrev pub routes_from : Layout → List NodePast → List ℕ → ℕ → Markup
routes_from l pasts homes zero = Nothing
routes_from l pasts homes (suc node) = Both (routes_from l pasts homes node) (route_of l pasts homes node)

unfoldable pub routes : Layout → List NodePast → List ℕ → Markup
routes l pasts homes = Both (head (tip l)) (routes_from l pasts homes l.nodes)
