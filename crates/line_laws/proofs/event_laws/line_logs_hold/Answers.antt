-- The law, by that of the logs.
use Rattle.line_laws.proofs.FurtherLogs.{commands_fit, line_logs_hold}
use Rattle.line_laws.proofs.event_laws.line_logs_hold.Goals as goal

pub returns-clause-commands : goal.returns-clause-commands
returns-clause-commands c = commands_fit

pub returns-clause-logs : goal.returns-clause-logs
returns-clause-logs c = line_logs_hold
