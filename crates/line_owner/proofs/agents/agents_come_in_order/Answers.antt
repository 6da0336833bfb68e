use Rattle.line_owner.proofs.Order.{in_order}
use Rattle.line_owner.proofs.agents.agents_come_in_order.Goals as goal

pub returns : goal.returns
returns c = in_order
