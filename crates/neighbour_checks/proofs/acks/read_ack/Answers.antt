use Rattle.neighbour_checks.proofs.AckSpellings.{one_value, only_read, value_read}
use Rattle.neighbour_checks.proofs.acks.read_ack.Goals as goal

pub returns-clause-value : goal.returns-clause-value
returns-clause-value c = value_read c.args.octets.now c.ack_of.result c.ack_of.ensures.found c.ack_of.ensures.exact

pub returns-clause-only : goal.returns-clause-only
returns-clause-only c = only_read c.args.octets.now c.ack_of.result c.ack_of.ensures.found c.ack_of.ensures.exact

pub returns-clause-one_value : goal.returns-clause-one_value
returns-clause-one_value c = one_value c.args.octets.now
