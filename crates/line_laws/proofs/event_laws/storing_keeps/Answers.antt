-- The law, by each part that is kept.
use Rattle.line_laws.proofs.LaterKeeps.{storing_keeps}
use Rattle.line_laws.proofs.event_laws.storing_keeps.Goals as goal

pub returns : goal.returns
returns c = storing_keeps
