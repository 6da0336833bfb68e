use Rattle.node_rules.proofs.ListedPuts.{listed_deferred}
use Rattle.node_rules.proofs.outbox_laws.listed_puts_are_deferred.Goals as goal

pub returns : goal.returns
returns g c = λ old new p answer out puts stored kept done h running none listed same wrote.
    listed_deferred old new p answer out puts stored kept done h running none listed same wrote
