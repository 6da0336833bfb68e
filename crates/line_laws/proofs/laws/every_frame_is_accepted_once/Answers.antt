-- The law, by the traversal of runs.
use Rattle.line_laws.proofs.OnceRuns.{every_frame}
use Rattle.line_laws.proofs.laws.every_frame_is_accepted_once.Goals as goal

pub returns : goal.returns
returns c = every_frame
