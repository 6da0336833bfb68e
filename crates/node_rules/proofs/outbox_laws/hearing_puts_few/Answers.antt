use Rattle.node_rules.proofs.FewPuts.{hears, meters_hear, coordinators_hear}
use Rattle.node_rules.proofs.outbox_laws.hearing_puts_few.Goals as goal

pub returns-clause-stations : goal.returns-clause-stations
returns-clause-stations c = hears

pub returns-clause-meters : goal.returns-clause-meters
returns-clause-meters c = meters_hear

pub returns-clause-coordinators : goal.returns-clause-coordinators
returns-clause-coordinators c = coordinators_hear
