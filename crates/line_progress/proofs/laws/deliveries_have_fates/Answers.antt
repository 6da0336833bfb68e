-- The law, by the cases of its rule.
use Rattle.line_progress.proofs.DeliveryFates.{delivery_fates}
use Rattle.line_progress.proofs.laws.deliveries_have_fates.Goals as goal

pub returns : goal.returns
returns c = delivery_fates
