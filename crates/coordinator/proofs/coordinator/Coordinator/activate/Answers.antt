use Rattle.node_rules.specs.declared.refusal.CoordinatorRefusal.TheVariants.{NotAllowed, NotIssued}
use Rattle.node_rules.specs.Coordinators.{orders}
use Rattle.plc_station.proofs.CarriedPlans.{if_some, at_some}
use Rattle.coordinator.specs.CoordinatorStates.{node_of}
use Rattle.coordinator.proofs.StoredChanges.{refusal, carried_by}
use Rattle.coordinator.proofs.ActivationOrders.{not_allowed, not_known, not_issued, ordered}
use Rattle.joining_messages.specs.declared.message.JoinBody.TheVariants as body
use Rattle.node_rules.specs.JoiningPackets.{message}
use Rattle.coordinator.proofs.coordinator.Coordinator.activate.Goals as goal

pub returns-in_default-clause-carries : goal.returns-in_default-clause-carries
returns-in_default-clause-carries g c =
    if_some (node_of c.args.self.now).memory _ (λ m running. refusal orders (node_of c.args.self.now) m NotAllowed _ _ running
    (not_allowed m c.args.eui c.args.index c.args.now (at_some (node_of c.args.self.now).memory _ m running c.in_default.ensures.entry)) c.clear.ensures)

pub returns-in_default-known_address-clause-carries : goal.returns-in_default-known_address-clause-carries
returns-in_default-known_address-clause-carries g c =
    if_some (node_of c.args.self.now).memory _ (λ m running. refusal orders (node_of c.args.self.now) m NotAllowed _ _ running
    (not_known m c.args.eui c.args.index c.args.now _ (at_some (node_of c.args.self.now).memory _ m running c.in-Some.ensures.entry)
    (at_some (node_of c.args.self.now).memory _ m running c.in_default-known_address.ensures)) c.clear.ensures)

pub returns-then-not-was_issued-clause-carries : goal.returns-then-not-was_issued-clause-carries
returns-then-not-was_issued-clause-carries g c =
    if_some (node_of c.args.self.now).memory _ (λ m running. refusal orders (node_of c.args.self.now) m NotIssued _ _ running
    (not_issued m c.args.eui c.args.index c.args.now _ _ (at_some (node_of c.args.self.now).memory _ m running c.in-Some.ensures.entry)
    (at_some (node_of c.args.self.now).memory _ m running c.in-Some-known_address.ensures)
    (at_some (node_of c.args.self.now).memory _ m running c.if-not-was_issued.ensures)) c.clear.ensures)

pub returns-clause-carries : goal.returns-clause-carries
returns-clause-carries g c =
    if_some (node_of c.args.self.now).memory _ (λ m running. carried_by _ _ _ _ _ _
    (ordered m c.args.eui c.args.index c.args.now _ _ (at_some (node_of c.args.self.now).memory _ m running c.in-Some.ensures.entry)
    (at_some (node_of c.args.self.now).memory _ m running c.in-Some-known_address.ensures)
    (at_some (node_of c.args.self.now).memory _ m running c.if-not-was_issued.ensures))
    (at_some (node_of c.args.self.now).memory _ m running
    (c.order.ensures.carries (message c.in-Some.entry.eui (body.Activate c.args.index)) c.write_activation.ensures.command)))
