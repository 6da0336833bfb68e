-- What a station made of a frame is reported.
use Rattle.line_world.proofs.nodes.node_receptions.reception_of_station.Goals as goal

pub returns-in-Held-clause-reports : goal.returns-in-Held-clause-reports
returns-in-Held-clause-reports c = rw c.in-Held.is c.reception_of.ensures.reports

pub returns-in-Relayed-clause-reports : goal.returns-in-Relayed-clause-reports
returns-in-Relayed-clause-reports c = rw c.in-Relayed.is c.reception_of-in-Relayed.ensures.reports

pub returns-in-Answered-clause-reports : goal.returns-in-Answered-clause-reports
returns-in-Answered-clause-reports c = rw c.in-Answered.is c.reception_of-in-Answered.ensures.reports

pub returns-in-Learned-clause-reports : goal.returns-in-Learned-clause-reports
returns-in-Learned-clause-reports c = rw c.in-Learned.is c.reception_of-in-Learned.ensures.reports

pub returns-in-Broken-clause-reports : goal.returns-in-Broken-clause-reports
returns-in-Broken-clause-reports c = rw c.in-Broken.is c.reception_of-in-Broken.ensures.reports

pub returns-in-Reported-clause-reports : goal.returns-in-Reported-clause-reports
returns-in-Reported-clause-reports c = rw c.in-Reported.is c.reception_of-in-Reported.ensures.reports

pub returns-in-Joining-clause-reports : goal.returns-in-Joining-clause-reports
returns-in-Joining-clause-reports c = rw c.in-Joining.is c.reception_of-in-Joining.ensures.reports

pub returns-in-Local-clause-reports : goal.returns-in-Local-clause-reports
returns-in-Local-clause-reports c = rw c.in-Local.is c.reception_of-in-Local.ensures.reports
