-- The law, by the rule of each command.
use Rattle.line_progress.proofs.BroadcastFates.{broadcasts_go}
use Rattle.line_progress.proofs.laws.broadcasts_go_further.Goals as goal

pub returns : goal.returns
returns c = broadcasts_go
