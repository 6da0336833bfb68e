use Rattle.line_record.proofs.Counts.{events_are_owned}
use Rattle.line_record.proofs.laws.events_are_owned.Goals as goal

pub returns : goal.returns
returns c = events_are_owned
