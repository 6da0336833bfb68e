use Rattle.broadcast_log.proofs.LogPuts.{admission_leads}
use Rattle.broadcast_log.proofs.laws.admissions_lead.Goals as goal

pub returns : goal.returns
returns c = admission_leads
