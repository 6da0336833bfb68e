use Rattle.broadcast_log.proofs.Runs.{each_admitted_once}
use Rattle.broadcast_log.proofs.laws.each_is_admitted_once.Goals as goal

pub returns : goal.returns
returns c = each_admitted_once
