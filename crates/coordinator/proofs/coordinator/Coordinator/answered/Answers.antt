use Rattle.plc_station.proofs.CarriedPlans.{if_some, at_some}
use Rattle.coordinator.specs.CoordinatorStates.{node_of, identity_of}
use Rattle.node_rules.specs.HearingRules.{dropped}
use Rattle.std.proofs.Common.{sym, ◌∙◌}
use Rattle.coordinator.proofs.StoredChanges.{refusal, carried_by}
use Rattle.node_rules.specs.declared.refusal.Dropped.TheVariants.{NotAllowed, NoSession}
use Rattle.coordinator.proofs.PacketRules.{not_allowed, no_session, answers, served}
use Rattle.coordinator.proofs.coordinator.Coordinator.answered.Goals as goal

pub returns-in_default-clause-carries : goal.returns-in_default-clause-carries
returns-in_default-clause-carries g c =
    if_some (node_of c.args.self.now).memory _ (λ m running. refusal dropped (node_of c.args.self.now) m NotAllowed _ _ running
    (not_allowed (identity_of c.args.self.now) m c.args.eui c.args.packet.now c.args.now
    (sym c.in_default.is ∙ at_some (node_of c.args.self.now).memory _ m running c.allowed_one-allowed.ensures.entry)) c.requires.ready.empty)

pub returns-in_default-open-clause-carries : goal.returns-in_default-open-clause-carries
returns-in_default-open-clause-carries g c =
    if_some (node_of c.args.self.now).memory _ (λ m running. refusal dropped (node_of c.args.self.now) m NoSession _ _ running
    (no_session (identity_of c.args.self.now) m c.args.eui c.args.packet.now c.args.now _
    (sym c.in-Some.is ∙ at_some (node_of c.args.self.now).memory _ m running c.allowed_one-allowed.ensures.entry)
    (sym c.in_default-open.is ∙ at_some (node_of c.args.self.now).memory _ m running c.session_of-open.ensures)) c.requires.ready.empty)

pub take_packet-requires-clause-served : goal.take_packet-requires-clause-served
take_packet-requires-clause-served g c =
    if_some (node_of c.args.self.now).memory _ (λ m running. served m c.args.eui _ _
    (at_some (node_of c.args.self.now).memory _ m running c.requires.ready.holds).home
    (sym c.in-Some.is ∙ at_some (node_of c.args.self.now).memory _ m running c.allowed_one-allowed.ensures.entry)
    (sym c.in-Some-open.is ∙ at_some (node_of c.args.self.now).memory _ m running c.session_of-open.ensures))

pub returns-clause-carries : goal.returns-clause-carries
returns-clause-carries g c =
    if_some (node_of c.args.self.now).memory _ (λ m running. carried_by _ _ _ _ _ _
    (answers (identity_of c.args.self.now) m c.args.eui c.args.packet.now c.args.now _ _
    (sym c.in-Some.is ∙ at_some (node_of c.args.self.now).memory _ m running c.allowed_one-allowed.ensures.entry)
    (sym c.in-Some-open.is ∙ at_some (node_of c.args.self.now).memory _ m running c.session_of-open.ensures))
    (at_some (node_of c.args.self.now).memory _ m running c.take_packet.ensures.carries))
