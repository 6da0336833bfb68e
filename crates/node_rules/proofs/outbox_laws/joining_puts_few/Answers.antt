use Rattle.node_rules.proofs.FewPuts.{joins}
use Rattle.node_rules.proofs.outbox_laws.joining_puts_few.Goals as goal

pub returns : goal.returns
returns c = joins
