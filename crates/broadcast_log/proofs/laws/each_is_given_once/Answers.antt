use Rattle.broadcast_log.proofs.Runs.{each_given_once}
use Rattle.broadcast_log.proofs.laws.each_is_given_once.Goals as goal

pub returns : goal.returns
returns c = each_given_once
