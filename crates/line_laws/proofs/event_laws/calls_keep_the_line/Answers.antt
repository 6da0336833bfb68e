-- The law, by the form of what each node does.
use Rattle.line_laws.proofs.FurtherLines.{calls_keep}
use Rattle.line_laws.proofs.event_laws.calls_keep_the_line.Goals as goal

pub returns : goal.returns
returns c = calls_keep
