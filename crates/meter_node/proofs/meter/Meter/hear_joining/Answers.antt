use Rattle.std.proofs.Common.{ap, refl, sym, ◌∙◌}
use Rattle.joining_messages.specs.Reader.{join_in}
use Rattle.node_rules.specs.HearingRules.{dropped}
use Rattle.node_rules.specs.Meters as meters
use Rattle.node_rules.specs.declared.refusal.Dropped.TheVariants.{BadUnit}
use Rattle.meter_node.specs.MeterStates.{memory_with, identity_of}
use Rattle.meter_node.proofs.Carried.{on_node, refuses}
use Rattle.meter_node.proofs.HearingRules.{same_plan}
use Rattle.meter_node.proofs.meter.Meter.hear_joining.Goals as goal

pub returns-in_default-clause-carries : goal.returns-in_default-clause-carries
returns-in_default-clause-carries g c =
    on_node c.args.self.now _ (λ l running.
    refuses dropped c.args.self.now c.args.self.now l BadUnit (meters.hear_join_in (identity_of c.args.self.now) (memory_with c.args.self.now l) c.args.way
    (join_in c.args.body.now) c.args.now) c.args.out.now running refl
    (ap (λ o. meters.hear_join_in (identity_of c.args.self.now) (memory_with c.args.self.now l) c.args.way o c.args.now)
    (sym c.in_default.is ∙ c.read_message-read.ensures.message))
    c.requires.ready.empty)

pub returns-clause-carries : goal.returns-clause-carries
returns-clause-carries g c =
    same_plan c.args.self.now c.hear_join.new.self (λ m. meters.hear_join (identity_of c.args.self.now) m c.args.way c.in-Some.join c.args.now)
    (λ m. meters.hear_join_in (identity_of c.args.self.now) m c.args.way (join_in c.args.body.now) c.args.now) c.hear_join.result c.hear_join.new.out
    (λ l. ap (λ o. meters.hear_join_in (identity_of c.args.self.now) (memory_with c.args.self.now l) c.args.way o c.args.now)
    (sym c.in-Some.is ∙ c.read_message-read.ensures.message))
    c.hear_join.ensures.carries
