use Rattle.std.proofs.Common.{sym, ◌∙◌}
use Rattle.joining_messages.proofs.GrantLaws.{one_grant, only_granted}
use Rattle.joining_messages.proofs.GrantReadings.{value_granted}
use Rattle.joining_messages.proofs.granting.read_grant.Goals as goal

pub returns-clause-only : goal.returns-clause-only
returns-clause-only c = only_granted c.args.octets.now c.grant_of.result c.grant_of.ensures.found c.grant_of.ensures.exact

pub returns-clause-one_value : goal.returns-clause-one_value
returns-clause-one_value c = λ a b left right. one_grant a b left.0 right.0 (sym left.1 ∙ right.1)

pub returns-clause-value : goal.returns-clause-value
returns-clause-value c = value_granted c.args.octets.now c.grant_of.result c.grant_of.ensures.found c.grant_of.ensures.exact
