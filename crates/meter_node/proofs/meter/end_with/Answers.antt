use Rattle.std.proofs.Common.{refl}
use Rattle.meter_node.proofs.NextEnds.{sooner}
use Rattle.meter_node.proofs.meter.end_with.Goals as goal

pub returns-in_default : goal.returns-in_default
returns-in_default c = rw c.in_default.is (record { before = λ time h. h; lasts = λ time h. refl; ends = λ time clock h same. h })

pub returns : goal.returns
returns c = rw (c.in-Some.is, c.earlier_end.ensures) (sooner c.unwrap_or.result c.args.end _ c.unwrap_or.ensures)
