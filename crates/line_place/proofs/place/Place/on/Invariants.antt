use Rattle.std.proofs.Common.{◌≡◌, map}
use Rattle.line_place.specs.Rows.{rows_to}
use Rattle.line_place.proofs.place.Place.on.Given as goal

abbrev pub invariant-loop-a : goal.invariant-loop-a
invariant-loop-a l = map (λ row. row.items) l.rows.items ≡ rows_to l.layout l.losses l.costs l.nodes l.a
