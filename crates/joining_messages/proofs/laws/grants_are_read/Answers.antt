use Rattle.joining_messages.proofs.GrantReadings.{grant_read}
use Rattle.joining_messages.proofs.laws.grants_are_read.Goals as goal

pub returns : goal.returns
returns c = grant_read
