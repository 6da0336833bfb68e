-- The law, by the kinds of events.
use Rattle.line_progress.proofs.HeldElsewhere.{events_leave}
use Rattle.line_progress.proofs.laws.events_leave_others.Goals as goal

pub returns : goal.returns
returns c = events_leave
