-- What the coordinator made of a frame that it did not drop is reported.
use Rattle.line_rules.specs.Answers as rules
use Rattle.line_events.specs.declared.event.Answer.TheVariants as answers
use Rattle.line_world.proofs.CoordinatorReceptions.{reported_beside}
use Rattle.line_world.proofs.nodes.node_receptions.coordinator_words.Goals as goal

pub returns-in-Challenged-clause-reports : goal.returns-in-Challenged-clause-reports
returns-in-Challenged-clause-reports c = rw c.in-Challenged.is c.reception_of.ensures.reports

pub returns-in-Declined-clause-reports : goal.returns-in-Declined-clause-reports
returns-in-Declined-clause-reports c = rw c.in-Declined.is c.reception_of-in-Declined.ensures.reports

pub returns-in-Keyed-clause-reports : goal.returns-in-Keyed-clause-reports
returns-in-Keyed-clause-reports c =
    rw c.in-Keyed.is (reported_beside c.reception_of-in-Keyed.result (rules.only answers.Keyed) _ c.reception_of-in-Keyed.ensures.reports)
