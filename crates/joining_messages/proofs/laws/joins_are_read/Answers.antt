use Rattle.joining_messages.proofs.Readings.{join_read}
use Rattle.joining_messages.proofs.laws.joins_are_read.Goals as goal

pub returns : goal.returns
returns c = join_read
