use Rattle.node_rules.proofs.DeferredPuts.{deferred, cut_while_storing}
use Rattle.node_rules.proofs.outbox_laws.deferring_puts.Goals as goal

pub returns-clause-calls : goal.returns-clause-calls
returns-clause-calls g c = λ old new p answer out stored kept done h running same wrote. deferred old new p answer out stored kept done h running same wrote

pub returns-clause-cuts : goal.returns-clause-cuts
returns-clause-cuts g c = λ records p front w rest keeps_new split. cut_while_storing records p front w rest keeps_new split
