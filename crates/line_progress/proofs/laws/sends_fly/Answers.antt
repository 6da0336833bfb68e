-- The law, by the kinds of events.
use Rattle.line_progress.proofs.EventReports.{sends_fly}
use Rattle.line_progress.proofs.laws.sends_fly.Goals as goal

pub returns : goal.returns
returns c = sends_fly
