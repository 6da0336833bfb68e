use Rattle.joining_messages.proofs.JoinOctets.{spelling_octets, grant_octets}
use Rattle.joining_messages.proofs.laws.spellings_are_octets.Goals as goal

pub returns-clause-message : goal.returns-clause-message
returns-clause-message c = spelling_octets

pub returns-clause-grant : goal.returns-clause-grant
returns-clause-grant c = grant_octets
