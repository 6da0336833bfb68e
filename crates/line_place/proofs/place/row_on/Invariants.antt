use Rattle.std.proofs.Common.{◌≡◌}
use Rattle.line_place.specs.Rows.{row_to}
use Rattle.line_place.proofs.place.row_on.Given as goal

abbrev pub invariant-loop-b : goal.invariant-loop-b
invariant-loop-b l = l.row.items ≡ row_to l.layout l.losses l.costs l.a l.b
