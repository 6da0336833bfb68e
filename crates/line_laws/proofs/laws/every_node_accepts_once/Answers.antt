-- The law, by the traversal of runs.
use Rattle.line_laws.proofs.OnceRuns.{every_node}
use Rattle.line_laws.proofs.laws.every_node_accepts_once.Goals as goal

pub returns : goal.returns
returns c = every_node
