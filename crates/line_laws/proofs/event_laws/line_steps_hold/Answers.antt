-- The law, by the kinds of events.
use Rattle.line_laws.proofs.FurtherSteps.{line_steps_hold, logs_fit, tables_short}
use Rattle.line_laws.proofs.event_laws.line_steps_hold.Goals as goal

pub returns-clause-holds : goal.returns-clause-holds
returns-clause-holds c = line_steps_hold

pub returns-clause-logs : goal.returns-clause-logs
returns-clause-logs c = logs_fit

pub returns-clause-tables : goal.returns-clause-tables
returns-clause-tables c = tables_short
