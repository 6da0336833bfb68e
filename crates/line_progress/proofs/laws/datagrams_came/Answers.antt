-- The law, by the kinds of events.
use Rattle.line_progress.proofs.EventReports.{datagrams_came}
use Rattle.line_progress.proofs.laws.datagrams_came.Goals as goal

pub returns : goal.returns
returns c = datagrams_came
