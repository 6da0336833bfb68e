-- The law, by the accounts side by side.
use Rattle.line_laws.proofs.HoldsRuns.{every_run_throughout}
use Rattle.line_laws.proofs.laws.every_run_holds_throughout.Goals as goal

pub returns : goal.returns
returns c = every_run_throughout
