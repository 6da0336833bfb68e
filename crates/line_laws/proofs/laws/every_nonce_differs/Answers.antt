-- The law, by the traversal of runs.
use Rattle.line_laws.proofs.KeyedRuns.{every_nonce}
use Rattle.line_laws.proofs.laws.every_nonce_differs.Goals as goal

pub returns : goal.returns
returns c = every_nonce
