use Rattle.line_progress.proofs.PlainCosts.{accepting_is_free, coordinators_cost, meters_cost}
use Rattle.line_progress.proofs.joining_laws.plain_frames_cost_little.Goals as goal

pub returns-clause-accepting : goal.returns-clause-accepting
returns-clause-accepting c = accepting_is_free

pub returns-clause-meters : goal.returns-clause-meters
returns-clause-meters c = meters_cost

pub returns-clause-coordinator : goal.returns-clause-coordinator
returns-clause-coordinator c = coordinators_cost
