use Rattle.routing_set.proofs.OfferPuts.{number_leads}
use Rattle.routing_set.proofs.laws.numbers_lead.Goals as goal

pub returns : goal.returns
returns c = number_leads
