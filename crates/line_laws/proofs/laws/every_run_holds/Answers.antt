-- The law, by induction over runs.
use Rattle.line_laws.proofs.FurtherOctets.{every_run_holds}
use Rattle.line_laws.proofs.laws.every_run_holds.Goals as goal

pub returns : goal.returns
returns c = every_run_holds
