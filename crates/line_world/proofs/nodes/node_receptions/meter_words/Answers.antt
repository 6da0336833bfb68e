-- What a meter made of a frame that it did not drop is reported.
use Rattle.line_world.proofs.nodes.node_receptions.meter_words.Goals as goal

pub returns-in-Carried-clause-reports : goal.returns-in-Carried-clause-reports
returns-in-Carried-clause-reports c = rw c.in-Carried.is c.reception_of.ensures.reports

pub returns-in-Replied-clause-reports : goal.returns-in-Replied-clause-reports
returns-in-Replied-clause-reports c = rw c.in-Replied.is c.reception_of-in-Replied.ensures.reports

pub returns-in-Noted-clause-reports : goal.returns-in-Noted-clause-reports
returns-in-Noted-clause-reports c = rw c.in-Noted.is c.reception_of-in-Noted.ensures.reports

pub returns-in-Declined-clause-reports : goal.returns-in-Declined-clause-reports
returns-in-Declined-clause-reports c = rw c.in-Declined.is c.reception_of-in-Declined.ensures.reports

pub returns-in-Left-clause-reports : goal.returns-in-Left-clause-reports
returns-in-Left-clause-reports c = rw c.in-Left.is c.reception_of-in-Left.ensures.reports

pub returns-in-Activated-clause-reports : goal.returns-in-Activated-clause-reports
returns-in-Activated-clause-reports c = rw c.in-Activated.is c.reception_of-in-Activated.ensures.reports
