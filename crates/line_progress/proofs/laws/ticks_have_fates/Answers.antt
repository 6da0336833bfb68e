-- The law, by the cases of its rule.
use Rattle.line_progress.proofs.TickEvents.{tick_fates}
use Rattle.line_progress.proofs.laws.ticks_have_fates.Goals as goal

pub returns : goal.returns
returns c = tick_fates
