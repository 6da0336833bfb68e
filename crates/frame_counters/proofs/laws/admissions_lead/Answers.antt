use Rattle.frame_counters.proofs.AdmissionPuts.{admission_leads}
use Rattle.frame_counters.proofs.laws.admissions_lead.Goals as goal

pub returns : goal.returns
returns c = λ table from counter room address fits. admission_leads table from counter address fits room
