use Rattle.joining_messages.proofs.Readings.{join_spelled}
use Rattle.joining_messages.proofs.laws.read_joins_are_spelled.Goals as goal

pub returns : goal.returns
returns c = join_spelled
