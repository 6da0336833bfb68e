use Rattle.joining_messages.proofs.GrantReadings.{grant_spelled}
use Rattle.joining_messages.proofs.laws.read_grants_are_spelled.Goals as goal

pub returns : goal.returns
returns c = grant_spelled
