-- Where each node is on the map. All numbers are pixels but seats, which are numbers within a layout.
use Rattle.std.specs.Prelude.{ℕ, ◌+◌, ◌-◌, ◌*◌, ◌/◌, ◌%◌, ◌==◌, min, max, nat_le, nat_lt, zero, suc, Bool, List, [], ◌∷◌, replicate, reverse}
use Rattle.std.specs.Prelude.{slice_get, slice_set, Option, None, Some, if◌then◌else◌}
use Rattle.run_maps.specs.declared.search.Found.{Found}
use Rattle.run_maps.specs.declared.layout.Spot.{Spot}
use Rattle.run_maps.specs.Searches.{Search}

-- # Lists of numbers, one for each node

abbrev pub or_none : Option ℕ → ℕ
or_none None = 0
or_none (Some number) = number

abbrev pub number_at : List ℕ → ℕ → ℕ
number_at list node = or_none (slice_get list node)

abbrev pub put_by : Option ℕ → List ℕ → ℕ → ℕ → List ℕ
put_by None list node number = list
put_by (Some old) list node number = slice_set list node number

-- with another number for a node that it has
unfoldable pub put : List ℕ → ℕ → ℕ → List ℕ
put list node number = put_by (slice_get list node) list node number

abbrev pub zeros : ℕ → List ℕ
zeros nodes = replicate nodes 0

-- # The tree of the search

-- how a node was found, if there is such a node, and it was found
abbrev pub flat : Option (Option Found) → Option Found
flat None = None
flat (Some found) = found

abbrev pub parent_of : Option Found → ℕ → Option ℕ
parent_of None node = None
parent_of (Some found) node = if found.parent == node then None else Some found.parent

-- the node before another one on the way from the coordinator, which has none
unfoldable pub parent_at : Search → ℕ → Option ℕ
parent_at s node = parent_of (flat (slice_get s.found node)) node

-- how many rows a node takes: those of its leaves, at least one
unfoldable pub band_at : List ℕ → ℕ → ℕ
band_at leaves node = max (number_at leaves node) 1

abbrev pub with_band_of : Option ℕ → ℕ → List ℕ → List ℕ
with_band_of None band leaves = leaves
with_band_of (Some parent) band leaves = put leaves parent (min (number_at leaves parent) 1000 + min band 1000)

-- with the rows of a node among those of its parent
unfoldable pub with_band : Search → ℕ → List ℕ → List ℕ
with_band s node leaves = with_band_of (parent_at s node) (band_at leaves node) leaves

abbrev pub leaves_from : Search → List ℕ → List ℕ → List ℕ
leaves_from s [] leaves = leaves
leaves_from s (node ∷ nodes) leaves = leaves_from s nodes (with_band s node leaves)

-- the leaves below each node, 0 where nothing is below it: from the last that was found to the first
unfoldable pub leaves_of : ℕ → Search → List ℕ
leaves_of nodes s = leaves_from s (reverse s.order) (zeros nodes)

-- # Seats by leaves

pub record Seating : Type 0 where
  -- for each node the first of its rows that nothing below it has
  pub free : List ℕ
  -- for each node twice the middle of its rows
  pub seats : List ℕ

abbrev pub row_of : Option ℕ → List ℕ → ℕ
row_of None free = 0
row_of (Some parent) free = min (number_at free parent) 1000

abbrev pub taken_from : Option ℕ → ℕ → List ℕ → List ℕ
taken_from None row free = free
taken_from (Some parent) row free = put free parent row

abbrev pub seated_at : Option ℕ → ℕ → ℕ → ℕ → Seating → Seating
seated_at parent row band node seating =
    record { free = put (taken_from parent (row + band) seating.free) node row; seats = put seating.seats node (2 * row + band - 1) }

-- with a seat for a node, in the first free rows of its parent
unfoldable pub seated : Search → List ℕ → ℕ → Seating → Seating
seated s leaves node seating =
    seated_at (parent_at s node) (row_of (parent_at s node) seating.free) (min (band_at leaves node) 1000) node seating

abbrev pub seated_all : Search → List ℕ → List ℕ → Seating → Seating
seated_all s leaves [] seating = seating
seated_all s leaves (node ∷ nodes) seating = seated_all s leaves nodes (seated s leaves node seating)

abbrev pub no_seats : ℕ → Seating
no_seats nodes = record { free = zeros nodes; seats = zeros nodes }

unfoldable pub tree_seats : ℕ → Search → List ℕ → List ℕ
tree_seats nodes s leaves = (seated_all s leaves s.order (no_seats nodes)).seats

-- # Seats by the order of the search

abbrev pub ordered_from : ℕ → List ℕ → List ℕ → List ℕ
ordered_from place [] seats = seats
ordered_from place (node ∷ nodes) seats = ordered_from (place + 1) nodes (put seats node place)

unfoldable pub ordered_seats : ℕ → Search → List ℕ
ordered_seats nodes s = ordered_from 0 s.order (zeros nodes)

-- # A grid

-- the next number, while the square of this one is less
unfoldable pub wider : ℕ → ℕ → ℕ
wider nodes side = if nat_lt (min side 1000 * min side 1000) nodes then min side 1000 + 1 else side

abbrev pub widened : ℕ → ℕ → ℕ
widened nodes zero = 1
widened nodes (suc times) = wider nodes (widened nodes times)

-- the least number whose square is as much, of at most 1,000 nodes
unfoldable pub side_of : ℕ → ℕ
side_of nodes = widened nodes 32

-- # Layouts

pub record Layout : Type 0 where
  pub nodes : ℕ
  pub found : List (Option Found)
  pub seats : List ℕ
  -- the hops of the last column
  pub columns : ℕ
  -- how many rows there are
  pub rows : ℕ
  -- how many nodes a row of the grid has
  pub side : ℕ

-- up to 24 nodes a column for each number of hops
abbrev pub is_tree : ℕ → Bool
is_tree nodes = nat_le nodes 24

abbrev pub tree_layout : ℕ → Search → List ℕ → Layout
tree_layout nodes s leaves =
    record {
      nodes = nodes;
      found = s.found;
      seats = tree_seats nodes s leaves;
      columns = s.most;
      rows = band_at leaves 0;
      side = 1;
    }

abbrev pub grid_layout : ℕ → Search → Layout
grid_layout nodes s =
    record { nodes = nodes; found = s.found; seats = ordered_seats nodes s; columns = 0; rows = 0; side = side_of nodes }

unfoldable pub layout_of : ℕ → Search → Layout
layout_of nodes s = if is_tree nodes then tree_layout nodes s (leaves_of nodes s) else grid_layout nodes s

-- # Places

-- how many nodes a row of the grid has, at least one
unfoldable pub across : Layout → ℕ
across l = max (min l.side 1000) 1

-- between two nodes of the grid
unfoldable pub step_of : Layout → ℕ
step_of l = 620 / (across l + 2)

-- of two columns beside each other one is a little lower, so that links over it are seen
abbrev pub tree_spot : ℕ → ℕ → Spot
tree_spot hops seat = record { x = 50 + 150 * min hops 1000; y = 40 + 37 * min seat 3000 + 18 * (hops % 2) }

-- rows and columns of the grid are bent, so that no three nodes of one are in a line
abbrev pub bend : ℕ → ℕ → ℕ → ℕ
bend step side place = min (2 * step * (min place 1000 * min place 1000) / side / side) 10000

abbrev pub grid_spot : ℕ → ℕ → ℕ → Spot
grid_spot step side seat =
    record {
      x = step / 2 + step * (seat % side) + bend step side (min seat 1000 / side);
      y = step / 2 + step * (min seat 1000 / side) + bend step side (seat % side);
    }

abbrev pub spot_at : Layout → ℕ → ℕ → Spot
spot_at l hops seat = if is_tree l.nodes then tree_spot hops seat else grid_spot (step_of l) (across l) seat

abbrev pub hops_of : Option Found → ℕ
hops_of None = 0
hops_of (Some found) = found.hops

abbrev pub spot_by : Option ℕ → Layout → ℕ → Option Spot
spot_by None l hops = None
spot_by (Some seat) l hops = Some (spot_at l hops seat)

-- where a node is
unfoldable pub spot : Layout → ℕ → Option Spot
spot l node = spot_by (slice_get l.seats node) l (hops_of (flat (slice_get l.found node)))

unfoldable pub width_of : Layout → ℕ
width_of l = if is_tree l.nodes then 100 + 150 * min l.columns 1000 else step_of l * (across l + 2)

unfoldable pub height_of : Layout → ℕ
height_of l = if is_tree l.nodes then 24 + 74 * min l.rows 1000 else step_of l * (across l + 2)

-- of a node's circle
unfoldable pub radius_of : Layout → ℕ
radius_of l = if is_tree l.nodes then 15 else min (step_of l / 3) 15
