-- Spots that are drawn until a path leads to every meter.
use Rattle.std.specs.Prelude.{ℕ, zero, suc, ◌+◌, ◌*◌, ◌/◌, ◌≡◌, ◌<◌, List, [], ◌∷◌, ◌++◌}
use Rattle.rand_pcg.specs.Lcg.{Lcg}
use Rattle.air_draws.specs.Draws.{below, after}
use Rattle.line_place.specs.declared.link.Link.{Link}
use Rattle.line_place.specs.declared.link.Losses.{Losses}
use Rattle.line_place.specs.declared.link.Costs.{Costs}
use Rattle.line_place.specs.declared.plane.Spot.{Spot}
use Rattle.line_place.specs.declared.layout.Layout.TheVariants.{Scattered}
use Rattle.line_place.specs.declared.scattering.Field.{Field}
use Rattle.line_place.specs.declared.scattering.Scattering.{Scattering}
use Rattle.line_place.specs.declared.scattering.Scattering.TheVariants.{Connected, Apart}
use Rattle.line_place.specs.Hops.{AllHavePaths}
use Rattle.line_place.specs.Rows.{rows_to}
use Rattle.line_place.specs.Spread.{Spread}

-- a spot takes two draws, first how far across, then how far along
unfoldable pub drawn_spot : Field → Lcg → Spot
drawn_spot field g = record { x = below (field.wide * 100) g; y = below (field.high * 100) (after g) }

-- the generator after the spots of n meters
unfoldable pub spots_after : Lcg → ℕ → Lcg
spots_after g zero = g
spots_after g (suc n) = after (after (spots_after g n))

-- the spots of the coordinator, in the middle, and of n meters
unfoldable pub drawn_spots : Field → Lcg → ℕ → List Spot
drawn_spots field g zero = record { x = field.wide * 100 / 2; y = field.high * 100 / 2 } ∷ []
drawn_spots field g (suc n) = drawn_spots field g n ++ (drawn_spot field (spots_after g n) ∷ [])

-- the links of the place that is drawn from a generator
unfoldable pub drawn_rows : Field → Losses → Costs → Lcg → List (List Link)
drawn_rows field losses costs g =
    let spread : Spread = record { spots = drawn_spots field g field.meters; reach = field.reach } in
    rows_to (Scattered spread) losses costs (field.meters + 1) (field.meters + 1)

-- the generator after k tries
unfoldable pub tries_after : ℕ → Lcg → ℕ → Lcg
tries_after meters g zero = g
tries_after meters g (suc k) = spots_after (tries_after meters g k) meters

-- none of the first k tries is connected
abbrev pub NoneBefore : Field → Losses → Costs → Lcg → ℕ → Type 0
NoneBefore field losses costs g k =
    (j : ℕ) → j < k → AllHavePaths (drawn_rows field losses costs (tries_after field.meters g j)) → ⊥

-- the first try that is connected, of 1,000
pub record IsFirstTry (field : Field) (losses : Losses) (costs : Costs) (g : Lcg) (rows : List (List Link)) (left : Lcg) : Type 0 where
  pub tries : ℕ
  pub few : tries < 1000
  pub drawn : rows ≡ drawn_rows field losses costs (tries_after field.meters g tries)
  pub connected : AllHavePaths rows
  pub none_before : NoneBefore field losses costs g tries
  pub after : left ≡ tries_after field.meters g (suc tries)

abbrev pub IsScattering : Field → Losses → Costs → Lcg → Scattering → Lcg → Type 0
IsScattering field losses costs g (Connected place) left = IsFirstTry field losses costs g place left
IsScattering field losses costs g Apart left =
    NoneBefore field losses costs g 1000 × (left ≡ tries_after field.meters g 1000)
