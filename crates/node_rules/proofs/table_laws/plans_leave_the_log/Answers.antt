-- The law, by the kinds of puts that the plans make.
use Rattle.node_rules.proofs.LogPuts.{stations_leave_log, meters_leave_log, coordinators_leave_log, carrying_out_leaves_log}
use Rattle.node_rules.proofs.table_laws.plans_leave_the_log.Goals as goal

pub returns-clause-stations : goal.returns-clause-stations
returns-clause-stations c start = stations_leave_log

pub returns-clause-meters : goal.returns-clause-meters
returns-clause-meters c start = meters_leave_log

pub returns-clause-coordinators : goal.returns-clause-coordinators
returns-clause-coordinators c start = coordinators_leave_log

pub returns-clause-carried : goal.returns-clause-carried
returns-clause-carried c start = carrying_out_leaves_log
