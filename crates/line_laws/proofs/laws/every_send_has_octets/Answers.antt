-- The law, by the traversal of runs.
use Rattle.line_laws.proofs.LawRuns.{every_send}
use Rattle.line_laws.proofs.laws.every_send_has_octets.Goals as goal

pub returns : goal.returns
returns c = every_send
