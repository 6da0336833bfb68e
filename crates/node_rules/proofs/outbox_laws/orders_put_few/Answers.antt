use Rattle.node_rules.proofs.FewPuts.{orders}
use Rattle.node_rules.proofs.outbox_laws.orders_put_few.Goals as goal

pub returns : goal.returns
returns c = orders
