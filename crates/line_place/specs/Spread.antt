-- Nodes at spots of their own.
use Rattle.std.specs.Prelude.{ℕ, List}
use Rattle.line_place.specs.declared.plane.Spot.{Spot}

-- the spots in the order of the nodes, and how many units a frame is heard
pub record Spread : Type 0 where
  pub spots : List Spot
  pub reach : ℕ
