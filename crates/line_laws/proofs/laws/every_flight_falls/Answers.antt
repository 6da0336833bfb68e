-- The law, by the traversal of runs.
use Rattle.line_laws.proofs.KeyedRuns.{every_fall}
use Rattle.line_laws.proofs.laws.every_flight_falls.Goals as goal

pub returns : goal.returns
returns c = every_fall
