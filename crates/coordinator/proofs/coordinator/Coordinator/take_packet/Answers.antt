use Rattle.plc_station.proofs.CarriedPlans.{if_some, at_some}
use Rattle.node_rules.specs.Memory.{CoordinatorSession}
use Rattle.coordinator.specs.CoordinatorStates.{node_of, identity_of}
use Rattle.std.proofs.Common.{sym}
use Rattle.coordinator.proofs.StoredChanges.{carried_by}
use Rattle.coordinator.proofs.PacketRules.{second_awaited, fourth_awaited}
use Rattle.coordinator.proofs.coordinator.Coordinator.take_packet.Goals as goal

pub returns-in_default-clause-carries : goal.returns-in_default-clause-carries
returns-in_default-clause-carries g c =
    let s : CoordinatorSession = record { server = c.session.inside.server; way = c.session.inside.way; since = c.session.inside.since } in
    rw (← c.session.view_is) (if_some (node_of c.args.self.now).memory _
    (λ m running. carried_by _ _ _ _ _ _ (second_awaited (identity_of c.args.self.now) m c.args.entry.now c.args.packet.now c.args.now s (sym c.in_default.is))
    (at_some (node_of c.args.self.now).memory _ m running (rw (← c.session.view_is) at c.take_second.ensures.carries))))

pub returns-clause-carries : goal.returns-clause-carries
returns-clause-carries g c =
    let s : CoordinatorSession = record { server = c.session.inside.server; way = c.session.inside.way; since = c.session.inside.since } in
    rw (← c.session.view_is) (if_some (node_of c.args.self.now).memory _
    (λ m running. carried_by _ _ _ _ _ _ (fourth_awaited (identity_of c.args.self.now) m c.args.entry.now c.args.packet.now c.args.now s _ (sym c.in-Some.is))
    (at_some (node_of c.args.self.now).memory _ m running (rw (← c.session.view_is) at c.take_fourth.ensures.carries))))
