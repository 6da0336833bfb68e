-- The law, by the form of what each node does.
use Rattle.line_laws.proofs.FurtherCalls.{calls_keep_all}
use Rattle.line_laws.proofs.event_laws.further_calls_keep_all.Goals as goal

pub returns : goal.returns
returns c = calls_keep_all
