-- The law, by the kinds of events.
use Rattle.line_progress.proofs.HeldEvents.{events_keep}
use Rattle.line_progress.proofs.laws.events_keep_held.Goals as goal

pub returns : goal.returns
returns c = events_keep
