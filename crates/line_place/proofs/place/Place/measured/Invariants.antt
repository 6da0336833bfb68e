use Rattle.std.proofs.Common.{◌≡◌, map}
use Rattle.line_place.specs.Rows.{measured_rows}
use Rattle.line_place.proofs.place.Place.measured.Given as goal

abbrev pub invariant-loop-a : goal.invariant-loop-a
invariant-loop-a l = map (λ row. row.items) l.rows.items ≡ measured_rows l.links l.a
