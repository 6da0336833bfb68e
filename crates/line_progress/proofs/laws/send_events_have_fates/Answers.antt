-- The law, by the cases of its rule.
use Rattle.line_progress.proofs.SendEvents.{send_event_fates}
use Rattle.line_progress.proofs.laws.send_events_have_fates.Goals as goal

pub returns : goal.returns
returns c = send_event_fates
