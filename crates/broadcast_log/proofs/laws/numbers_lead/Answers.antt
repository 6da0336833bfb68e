use Rattle.broadcast_log.proofs.LogPuts.{number_leads}
use Rattle.broadcast_log.proofs.laws.numbers_lead.Goals as goal

pub returns : goal.returns
returns c = number_leads
