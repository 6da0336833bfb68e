-- The law, by what is issued before the kick and after it.
use Rattle.line_laws.proofs.KickRuns.{every_shut_out}
use Rattle.line_laws.proofs.laws.every_shut_out_meter_stays_out.Goals as goal

pub returns : goal.returns
returns c = every_shut_out
