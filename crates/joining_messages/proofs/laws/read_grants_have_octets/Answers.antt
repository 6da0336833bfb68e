use Rattle.joining_messages.proofs.JoinOctets.{read_grant_octets}
use Rattle.joining_messages.proofs.laws.read_grants_have_octets.Goals as goal

pub returns : goal.returns
returns c = read_grant_octets
