-- What a meter made of a frame is reported.
use Rattle.std.proofs.Common.{subst}
use Rattle.line_rules.specs.Answers as rules
use Rattle.line_events.specs.declared.event.Answer.{Answer}
use Rattle.line_world.specs.Receptions.{ReportsReception}
use Rattle.line_world.proofs.nodes.node_receptions.reception_of_meter.Goals as goal

pub returns-in-Ok-clause-reports : goal.returns-in-Ok-clause-reports
returns-in-Ok-clause-reports c = rw c.in-Ok.is c.meter_words.ensures.reports

pub returns-in-Err-clause-reports : goal.returns-in-Err-clause-reports
returns-in-Err-clause-reports c =
    rw c.in-Err.is (subst (λ (w : Answer). ReportsReception c.reception_of.result (rules.only w)) c.drop_word.ensures c.reception_of.ensures.reports)
