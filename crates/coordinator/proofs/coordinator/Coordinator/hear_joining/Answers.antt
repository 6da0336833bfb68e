use Rattle.plc_station.proofs.CarriedPlans.{if_some, at_some}
use Rattle.coordinator.specs.CoordinatorStates.{node_of, identity_of}
use Rattle.node_rules.specs.HearingRules.{dropped}
use Rattle.std.proofs.Common.{sym, ◌∙◌}
use Rattle.coordinator.proofs.StoredChanges.{refusal, carried_by}
use Rattle.node_rules.specs.declared.refusal.Dropped.TheVariants.{BadUnit}
use Rattle.coordinator.proofs.HearingRules.{no_message, may_not_come, comes}
use Rattle.coordinator.proofs.coordinator.Coordinator.hear_joining.Goals as goal

pub returns-in_default-clause-carries : goal.returns-in_default-clause-carries
returns-in_default-clause-carries g c =
    if_some (node_of c.args.self.now).memory _ (λ m running. refusal dropped (node_of c.args.self.now) m BadUnit _ _ running
    (no_message (identity_of c.args.self.now) m c.args.way.now c.args.now _ (sym c.in_default.is ∙ c.read_message-read.ensures.message)) c.requires.ready.empty)

pub returns-then-not-may_come-clause-carries : goal.returns-then-not-may_come-clause-carries
returns-then-not-may_come-clause-carries g c =
    if_some (node_of c.args.self.now).memory _ (λ m running. refusal dropped (node_of c.args.self.now) m BadUnit _ _ running
    (may_not_come (identity_of c.args.self.now) m c.args.way.now c.args.now _ _
    (sym c.in-Some.is ∙ c.read_message-read.ensures.message) c.if-not-may_come.ensures) c.requires.ready.empty)

pub returns-clause-carries : goal.returns-clause-carries
returns-clause-carries g c =
    if_some (node_of c.args.self.now).memory _ (λ m running. carried_by _ _ _ _ _ _
    (comes (identity_of c.args.self.now) m c.args.way.now c.args.now _ _ (sym c.in-Some.is ∙ c.read_message-read.ensures.message) c.if-not-may_come.ensures)
    (at_some (node_of c.args.self.now).memory _ m running c.hear_body.ensures.carries))
