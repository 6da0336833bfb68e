-- The law: the request goes, the reply comes back, and what waits leaves.
use Rattle.line_progress.proofs.Finding.{find_it}
use Rattle.line_progress.proofs.laws.discoveries_arrive.Goals as goal

pub returns : goal.returns
returns c = find_it
