use Rattle.group_keys.proofs.EntryPuts.{change_leads}
use Rattle.group_keys.proofs.laws.changes_lead.Goals as goal

pub returns : goal.returns
returns c = change_leads
