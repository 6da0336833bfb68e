-- The law, by the form of what each node does.
use Rattle.line_laws.proofs.FurtherLines.{commands_keep}
use Rattle.line_laws.proofs.event_laws.commands_keep_the_line.Goals as goal

pub returns : goal.returns
returns c = commands_keep
