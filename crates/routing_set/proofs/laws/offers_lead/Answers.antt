use Rattle.routing_set.proofs.OfferPuts.{offer_leads}
use Rattle.routing_set.proofs.laws.offers_lead.Goals as goal

pub returns : goal.returns
returns c = offer_leads
