-- The law, by induction over runs.
use Rattle.line_laws.proofs.OpenCustody.{every_open}
use Rattle.line_laws.proofs.laws.every_run_stays_in_open_custody.Goals as goal

pub returns : goal.returns
returns c = every_open
