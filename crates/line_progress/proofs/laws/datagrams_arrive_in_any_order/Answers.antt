-- The law, by induction on the deliveries.
use Rattle.line_progress.proofs.AnyOrder.{arrive_so}
use Rattle.line_progress.proofs.laws.datagrams_arrive_in_any_order.Goals as goal

pub returns : goal.returns
returns c = arrive_so
