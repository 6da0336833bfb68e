use Rattle.group_keys.proofs.EntryPuts.{ring_leads}
use Rattle.group_keys.proofs.laws.rings_lead.Goals as goal

pub returns : goal.returns
returns c = ring_leads
