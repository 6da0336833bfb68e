use Rattle.joining_messages.proofs.JoinOctets.{read_octets}
use Rattle.joining_messages.proofs.laws.read_joins_have_octets.Goals as goal

pub returns : goal.returns
returns c = read_octets
