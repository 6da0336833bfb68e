-- The law, by what each event keeps.
use Rattle.line_laws.proofs.FurtherStates.{every_run_ranged}
use Rattle.line_laws.proofs.laws.every_run_is_ranged.Goals as goal

pub returns : goal.returns
returns c = every_run_ranged
