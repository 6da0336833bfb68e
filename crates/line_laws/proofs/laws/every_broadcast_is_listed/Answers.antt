-- The law, from what each event reports.
use Rattle.line_laws.proofs.ReachReported.{every_list}
use Rattle.line_laws.proofs.laws.every_broadcast_is_listed.Goals as goal

pub returns : goal.returns
returns c = every_list
