-- The law, by induction over runs.
use Rattle.line_laws.proofs.ReachHistory.{every_history}
use Rattle.line_laws.proofs.laws.every_history_is_kept.Goals as goal

pub returns : goal.returns
returns c = every_history
