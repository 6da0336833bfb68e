-- The law, by induction over runs.
use Rattle.line_laws.proofs.ReachRuns.{every_broadcast}
use Rattle.line_laws.proofs.laws.every_broadcast_is_once.Goals as goal

pub returns : goal.returns
returns c = every_broadcast
