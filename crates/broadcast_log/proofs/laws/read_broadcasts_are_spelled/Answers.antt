use Rattle.broadcast_log.proofs.Spellings.{broadcast_spelled}
use Rattle.broadcast_log.proofs.laws.read_broadcasts_are_spelled.Goals as goal

pub returns : goal.returns
returns c = broadcast_spelled
