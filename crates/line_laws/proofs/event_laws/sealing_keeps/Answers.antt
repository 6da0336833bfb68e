-- The law, by each part that is kept.
use Rattle.line_laws.proofs.LaterKeeps.{sealing_keeps}
use Rattle.line_laws.proofs.event_laws.sealing_keeps.Goals as goal

pub returns : goal.returns
returns g c = sealing_keeps
