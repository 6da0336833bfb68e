-- The law, by the kinds of events.
use Rattle.line_progress.proofs.EventFates.{bodies_kept}
use Rattle.line_progress.proofs.laws.events_keep_bodies.Goals as goal

pub returns : goal.returns
returns c = bodies_kept
