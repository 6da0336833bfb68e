use Rattle.std.proofs.Common.{ℕ, Ok, Err, List, ap, ◌∙◌, arith}
use Rattle.std.proofs.lemmas.Bool.Decides.{nat_tests}
use Rattle.node_rules.specs.declared.heard.Heard.TheVariants.{Local}
use Rattle.node_rules.specs.declared.refusal.Dropped.TheVariants.{BadUnit, Store}
use Rattle.node_rules.specs.HearingRules.{dropped}
use Rattle.node_rules.specs.Plans.{resting}
use Rattle.plc_station.proofs.CarriedPlans.{if_some, at_some}
use Rattle.plc_station.proofs.SentReplies.{refusal_heard, rested_heard, heard_by}
use Rattle.plc_station.proofs.HearingCases.{message_bad, message_is, joining_bad, local_is}
use Rattle.plc_station.proofs.station.Station.hear_command.Goals as goal

pub returns-in_default-clause-hears : goal.returns-in_default-clause-hears
returns-in_default-clause-hears g c =
    if_some c.args.self.now.memory _ (λ l m. refusal_heard dropped c.args.self.now l BadUnit _ _ m
    (message_bad l c.args.grant.now.address c.args.last.now.by c.args.last.now.to_all c.args.code c.args.body.now c.args.last.now.link c.args.last.now.time
    (grind (arith, nat_tests, c.if-code-eq1.true)) c.in_default.ensures.message) c.requires.ready.empty c.requires.fresh)

pub returns-then-code-eq1-clause-hears : goal.returns-then-code-eq1-clause-hears
returns-then-code-eq1-clause-hears g c =
    if_some c.args.self.now.memory _
    (λ l m. heard_by _ _ _ _ _ _ (message_is l c.args.grant.now.address c.args.last.now.by c.args.last.now.to_all c.args.code c.args.body.now
    c.args.last.now.link c.args.last.now.time c.in-Some.message (grind (arith, nat_tests, c.if-code-eq1.true)) c.in-Some.ensures.message)
    (at_some c.args.self.now.memory _ l m c.hear_message.ensures.hears))

pub returns-then-code-eq2-clause-hears : goal.returns-then-code-eq2-clause-hears
returns-then-code-eq2-clause-hears g c =
    if_some c.args.self.now.memory _ (λ l m. refusal_heard dropped c.args.self.now l BadUnit _ _ m
    (joining_bad l c.args.grant.now.address c.args.last.now.by c.args.last.now.to_all c.args.code c.args.body.now c.args.last.now.link c.args.last.now.time
    (grind (arith, nat_tests, c.if-code-eq1.false)) (grind (arith, nat_tests, c.if-code-eq2.true))) c.requires.ready.empty c.requires.fresh)

pub returns-clause-hears : goal.returns-clause-hears
returns-clause-hears g c =
    if_some c.args.self.now.memory _ (λ l m. rested_heard c.args.self.now l _ (Err Store) _ _ m
    (ap (λ (os : List ℕ). resting l (Ok (Local c.args.last.now.by c.args.last.now.to_all c.args.code os)) (Err Store)) c.new.ensures
    ∙ local_is l c.args.grant.now.address c.args.last.now.by c.args.last.now.to_all c.args.code c.args.body.now c.args.last.now.link c.args.last.now.time
    (grind (arith, nat_tests, c.if-code-eq1.false)) (grind (arith, nat_tests, c.if-code-eq2.false))) c.requires.ready.empty c.requires.fresh)
