-- The law, by the cases of its rule.
use Rattle.line_progress.proofs.UnitFates.{unit_fates}
use Rattle.line_progress.proofs.laws.units_have_fates.Goals as goal

pub returns : goal.returns
returns c = unit_fates
