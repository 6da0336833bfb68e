use Rattle.broadcast_log.proofs.Spellings.{broadcast_read}
use Rattle.broadcast_log.proofs.laws.broadcasts_are_read.Goals as goal

pub returns : goal.returns
returns c = broadcast_read
