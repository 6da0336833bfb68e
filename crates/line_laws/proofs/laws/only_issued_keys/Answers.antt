-- The law, by the traversal of runs.
use Rattle.line_laws.proofs.KeyedRuns.{only_issued}
use Rattle.line_laws.proofs.laws.only_issued_keys.Goals as goal

pub returns : goal.returns
returns c = only_issued
