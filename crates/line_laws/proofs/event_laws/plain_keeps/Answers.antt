-- The law, by each part that is kept.
use Rattle.line_laws.proofs.LaterKeeps.{plain_keeps}
use Rattle.line_laws.proofs.event_laws.plain_keeps.Goals as goal

pub returns : goal.returns
returns c = plain_keeps
