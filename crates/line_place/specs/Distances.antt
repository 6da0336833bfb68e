-- How far apart two nodes are, by the kind of the place: the number of steps past the nearest, None where a frame of one does not reach
-- the other. Node 0 is the coordinator.
use Rattle.std.specs.Prelude.{ℕ, zero, suc, ◌+◌, ◌-◌, ◌*◌, ◌/◌, ◌%◌, Option, Some, None, Bool, true, false, leb, ltb, eqb, ◌&&◌, cond, slice_get}
use Rattle.line_place.specs.declared.street.Street.{Street}
use Rattle.line_place.specs.declared.tower.Tower.{Tower}
use Rattle.line_place.specs.declared.plane.Grid.{Grid}
use Rattle.line_place.specs.declared.plane.Scatter.{Scatter}
use Rattle.line_place.specs.declared.layout.Layout.{Layout}
use Rattle.line_place.specs.declared.layout.Layout.TheVariants.{InStreet, InGrid, InTower, Scattered}

-- the value under a test
abbrev pub where_true : Bool → ℕ → Option ℕ
where_true true n = Some n
where_true false n = None

-- how far two numbers are apart
abbrev pub apart : ℕ → ℕ → ℕ
apart a b = (a - b) + (b - a)

-- # A street: one row of houses

-- the house of a node: the coordinator stands at the end, or between the two halves of the meters
unfoldable pub house : Street → ℕ → ℕ
house s a =
    cond s.middle (cond (eqb a 0) (s.meters / 2) (cond (leb a (s.meters / 2)) (a - 1) a)) a

-- the houses next to each other are no step past the nearest
unfoldable pub street_far : Street → ℕ → ℕ → Option ℕ
street_far s a b =
    let d = apart (house s a) (house s b) in
    where_true (ltb 0 d && leb d s.reach) (d - 1)

-- # A tower: risers, each with floors of flats; the coordinator feeds the risers from below

unfoldable pub riser : Tower → ℕ → ℕ
riser t a = (a - 1) / (t.flats * t.floors)

unfoldable pub floor : Tower → ℕ → ℕ
floor t a = (a - 1) / t.flats % t.floors

-- flats of one floor are as near as can be, those of other floors of a riser by the floors between them
unfoldable pub flats_far : Tower → ℕ → ℕ → Option ℕ
flats_far t a b =
    let d = apart (floor t a) (floor t b) in
    where_true (eqb (riser t a) (riser t b) && leb d t.reach) (d - 1)

-- the coordinator reaches the lowest floors of each riser
unfoldable pub tower_far : Tower → ℕ → ℕ → Option ℕ
tower_far t a b =
    cond (eqb (t.flats * t.floors) 0) None (cond (eqb a 0) (where_true (ltb (floor t b) t.reach) (floor t b))
    (cond (eqb b 0) (where_true (ltb (floor t a) t.reach) (floor t a)) (flats_far t a b)))

-- # Nodes on a plane; squares are in hundredths of a unit

-- the square of how far two nodes are apart
unfoldable pub square : ℕ → ℕ → ℕ → ℕ → ℕ
square ax ay bx by = apart ax bx * apart ax bx + apart ay by * apart ay by

-- how many whole units, up to the reach, are within the square of a distance
unfoldable pub units : ℕ → ℕ → ℕ
units zero q = 0
units (suc k) q = units k q + cond (leb ((k + 1) * (k + 1) * 10000) q) 1 0

-- nodes up to two units apart are no step past the nearest, and one step comes with each unit more
unfoldable pub plane_far : ℕ → ℕ → Option ℕ
plane_far reach q = where_true (leb q (reach * reach * 10000)) (units reach q - 1)

-- the rows of a grid are filled one after the other, from the coordinator in its corner
unfoldable pub grid_far : Grid → ℕ → ℕ → Option ℕ
grid_far g a b =
    cond (eqb g.wide 0) None
    (plane_far g.reach (square (a % g.wide) (a / g.wide) (b % g.wide) (b / g.wide) * 10000))

unfoldable pub spots_far : Scatter → ℕ → ℕ → Option ℕ
spots_far s a b =
    elim (slice_get s.spots a) as (λ _. Option ℕ) [
      | None ↦ None
      | Some p ↦ elim (slice_get s.spots b) [ None ↦ None | Some q ↦ plane_far s.reach (square p.x p.y q.x q.y) ]
    ]

-- # Any of them

unfoldable pub far : Layout → ℕ → ℕ → Option ℕ
far (InStreet s) a b = street_far s a b
far (InGrid g) a b = grid_far g a b
far (InTower t) a b = tower_far t a b
far (Scattered s) a b = spots_far s a b
