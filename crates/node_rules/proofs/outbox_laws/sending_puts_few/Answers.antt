use Rattle.node_rules.proofs.FewPuts.{sends}
use Rattle.node_rules.proofs.outbox_laws.sending_puts_few.Goals as goal

pub returns : goal.returns
returns c = sends
