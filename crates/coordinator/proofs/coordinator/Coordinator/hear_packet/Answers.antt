use Rattle.std.proofs.Common.{length, sym}
use Rattle.std.proofs.lemmas.Bool.{eqb-true, eqb-false}
use Rattle.plc_station.proofs.CarriedPlans.{if_some, at_some}
use Rattle.coordinator.specs.CoordinatorStates.{node_of, identity_of}
use Rattle.coordinator.proofs.StoredChanges.{carried_by}
use Rattle.coordinator.proofs.HearingRules.{asks, replies}
use Rattle.coordinator.proofs.coordinator.Coordinator.hear_packet.Goals as goal

pub returns-then-is_empty-clause-carries : goal.returns-then-is_empty-clause-carries
returns-then-is_empty-clause-carries g c =
    if_some (node_of c.args.self.now).memory _ (λ m running. carried_by _ _ _ _ _ _
    (asks (identity_of c.args.self.now) m c.args.way.now c.args.eui c.args.now c.args.packet.now
    (eqb-true (length c.args.packet.now) 0 (sym c.if-is_empty.ensures))) (at_some (node_of c.args.self.now).memory _ m running c.asked.ensures.carries))

pub returns-clause-carries : goal.returns-clause-carries
returns-clause-carries g c =
    if_some (node_of c.args.self.now).memory _ (λ m running. carried_by _ _ _ _ _ _
    (replies (identity_of c.args.self.now) m c.args.way.now c.args.eui c.args.now c.args.packet.now
    (eqb-false (length c.args.packet.now) 0 (sym c.if-is_empty.ensures))) (at_some (node_of c.args.self.now).memory _ m running c.answered.ensures.carries))
