-- The law, by what is issued before the kick and after it.
use Rattle.line_laws.proofs.KickRuns.{every_kick}
use Rattle.line_laws.proofs.laws.every_kicked_meter_stays_out.Goals as goal

pub returns : goal.returns
returns c = every_kick
