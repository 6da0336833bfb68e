use Rattle.std.proofs.Common.{rules}
use Rattle.neighbour_checks.specs.History.{Reply}
use Rattle.neighbour_checks.proofs.Histories.{leads_on}
use Rattle.neighbour_checks.proofs.checks.Checks.reply_sent.Goals as goal

pub returns-then-may_begin-clause-history : goal.returns-then-may_begin-clause-history
returns-then-may_begin-clause-history c = leads_on _ _ (Reply c.args.neighbour c.args.number c.args.origin c.args.now) (search rules)

pub returns-else-may_begin-clause-history : goal.returns-else-may_begin-clause-history
returns-else-may_begin-clause-history c = leads_on _ _ (Reply c.args.neighbour c.args.number c.args.origin c.args.now) (search rules)
