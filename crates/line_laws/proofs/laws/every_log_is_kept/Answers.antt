-- The law, by what every run holds.
use Rattle.line_laws.proofs.ReachLogs.{every_log}
use Rattle.line_laws.proofs.laws.every_log_is_kept.Goals as goal

pub returns : goal.returns
returns c = every_log
