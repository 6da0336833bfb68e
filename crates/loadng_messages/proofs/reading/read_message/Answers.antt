use Rattle.std.proofs.Common.{sym, ◌∙◌}
use Rattle.loadng_messages.proofs.Spellings.{one_value, only_read}
use Rattle.loadng_messages.proofs.Readings.{value_read}
use Rattle.loadng_messages.proofs.reading.read_message.Goals as goal

pub returns-clause-only : goal.returns-clause-only
returns-clause-only c = only_read c.args.octets.now c.message_of.result c.message_of.ensures.found c.message_of.ensures.exact

pub returns-clause-one_value : goal.returns-clause-one_value
returns-clause-one_value c = λ a b left right. one_value a b left.0 right.0 (sym left.1 ∙ right.1)

pub returns-clause-value : goal.returns-clause-value
returns-clause-value c = value_read c.args.octets.now c.message_of.result c.message_of.ensures.found c.message_of.ensures.exact
