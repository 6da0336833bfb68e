-- The law, by each part that is kept.
use Rattle.line_laws.proofs.LaterKeeps.{running_keeps}
use Rattle.line_laws.proofs.event_laws.running_keeps.Goals as goal

pub returns : goal.returns
returns c = running_keeps
