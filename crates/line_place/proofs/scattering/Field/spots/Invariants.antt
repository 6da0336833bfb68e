use Rattle.std.proofs.Common.{◌≡◌}
use Rattle.line_place.specs.ScatteredSpots.{spots_after, drawn_spots}
use Rattle.line_place.proofs.scattering.Field.spots.Given as goal

abbrev pub invariant-loop-meter : goal.invariant-loop-meter
invariant-loop-meter l = (l.spots.items ≡ drawn_spots l.self l.fn.draws l.meter) × (l.draws ≡ spots_after l.fn.draws l.meter)
