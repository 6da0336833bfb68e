-- The law, by the cases of its rule.
use Rattle.line_progress.proofs.TickEvents.{time_comes}
use Rattle.line_progress.proofs.laws.time_comes_to_all.Goals as goal

pub returns : goal.returns
returns c = time_comes
