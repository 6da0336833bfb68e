-- The law, by induction over runs.
use Rattle.line_laws.proofs.ReachReported.{every_reported}
use Rattle.line_laws.proofs.laws.every_event_is_reported.Goals as goal

pub returns : goal.returns
returns c = every_reported
