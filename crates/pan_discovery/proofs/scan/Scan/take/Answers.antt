-- One more entry of the history, heard or not.
use Rattle.std.proofs.Common.{rules}
use Rattle.pan_discovery.specs.History.{Beacon}
use Rattle.pan_discovery.proofs.Histories.{leads_on}
use Rattle.pan_discovery.proofs.scan.Scan.take.Goals as goal

pub returns-then-not-self-clause-history : goal.returns-then-not-self-clause-history
returns-then-not-self-clause-history c = leads_on _ _ (Beacon c.args.from c.args.cost c.args.link) (search rules)

pub returns-clause-history : goal.returns-clause-history
returns-clause-history c = leads_on _ _ (Beacon c.args.from c.args.cost c.args.link) (search rules)
