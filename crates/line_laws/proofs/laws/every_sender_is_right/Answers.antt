-- The law, by the traversal of runs.
use Rattle.line_laws.proofs.LawRuns.{every_sender}
use Rattle.line_laws.proofs.laws.every_sender_is_right.Goals as goal

pub returns : goal.returns
returns c = every_sender
