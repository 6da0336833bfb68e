use Rattle.plc_station.proofs.CarriedPlans.{if_some, at_some}
use Rattle.coordinator.specs.CoordinatorStates.{node_of, identity_of}
use Rattle.node_rules.specs.HearingRules.{dropped}
use Rattle.coordinator.proofs.StoredChanges.{refusal, carried_by}
use Rattle.std.proofs.Common.{sym, ap, ◌∙◌}
use Rattle.joining_messages.specs.declared.message.JoinBody.TheVariants.{Join}
use Rattle.node_rules.specs.declared.refusal.Dropped.TheVariants.{BadUnit}
use Rattle.node_rules.specs.Coordinators.{hear_join}
use Rattle.coordinator.proofs.coordinator.Coordinator.hear_body.Goals as goal

pub returns-clause-carries : goal.returns-clause-carries
returns-clause-carries g c =
    if_some (node_of c.args.self.now).memory _ (λ m running. carried_by _ _ _ _ _ _
    (ap (λ p. hear_join (identity_of c.args.self.now) m c.args.way.now c.args.eui (Join p) c.args.now) c.octets.ensures.value
    ∙ ap (λ b. hear_join (identity_of c.args.self.now) m c.args.way.now c.args.eui b c.args.now) (sym c.in-Join.is))
    (at_some (node_of c.args.self.now).memory _ m running c.hear_packet.ensures.carries))

pub returns-in-Challenge-clause-carries : goal.returns-in-Challenge-clause-carries
returns-in-Challenge-clause-carries g c =
    if_some (node_of c.args.self.now).memory _ (λ m running. refusal dropped (node_of c.args.self.now) m BadUnit _ _ running
    (ap (λ b. hear_join (identity_of c.args.self.now) m c.args.way.now c.args.eui b c.args.now) (sym c.in-Challenge.is)) c.requires.ready.empty)

pub returns-in-Accept-clause-carries : goal.returns-in-Accept-clause-carries
returns-in-Accept-clause-carries g c =
    if_some (node_of c.args.self.now).memory _ (λ m running. refusal dropped (node_of c.args.self.now) m BadUnit _ _ running
    (ap (λ b. hear_join (identity_of c.args.self.now) m c.args.way.now c.args.eui b c.args.now) (sym c.in-Accept.is)) c.requires.ready.empty)

pub returns-in-Decline-clause-carries : goal.returns-in-Decline-clause-carries
returns-in-Decline-clause-carries g c =
    if_some (node_of c.args.self.now).memory _ (λ m running. refusal dropped (node_of c.args.self.now) m BadUnit _ _ running
    (ap (λ b. hear_join (identity_of c.args.self.now) m c.args.way.now c.args.eui b c.args.now) (sym c.in-Decline.is)) c.requires.ready.empty)

pub returns-in-Kick-clause-carries : goal.returns-in-Kick-clause-carries
returns-in-Kick-clause-carries g c =
    if_some (node_of c.args.self.now).memory _ (λ m running. refusal dropped (node_of c.args.self.now) m BadUnit _ _ running
    (ap (λ b. hear_join (identity_of c.args.self.now) m c.args.way.now c.args.eui b c.args.now) (sym c.in-Kick.is)) c.requires.ready.empty)

pub returns-in-Activate-clause-carries : goal.returns-in-Activate-clause-carries
returns-in-Activate-clause-carries g c =
    if_some (node_of c.args.self.now).memory _ (λ m running. refusal dropped (node_of c.args.self.now) m BadUnit _ _ running
    (ap (λ b. hear_join (identity_of c.args.self.now) m c.args.way.now c.args.eui b c.args.now) (sym c.in-Activate.is)) c.requires.ready.empty)
