use Rattle.std.proofs.Common.{refl}
use Rattle.line_place.specs.Rows.{loss_in}
use Rattle.line_place.proofs.place.loss_in.Goals as goal

pub returns-in-Some : goal.returns-in-Some
unfolding loss_in
returns-in-Some c = rw (← c.in-Some.ensures) refl

pub returns-in-None : goal.returns-in-None
unfolding loss_in
returns-in-None c = rw (← c.in-None.ensures) refl
