use Rattle.plc_station.proofs.CarriedPlans.{if_some, at_some}
use Rattle.node_rules.specs.Memory.{CoordinatorSession}
use Rattle.coordinator.specs.CoordinatorStates.{node_of}
use Rattle.node_rules.specs.HearingRules.{dropped}
use Rattle.coordinator.proofs.StoredChanges.{refusal, carried_by}
use Rattle.coordinator.proofs.PacketRules.{fourth_refused, fourth_taken, agreed_is, agreed_tags, none_mapped}
use Rattle.coordinator.proofs.coordinator.Coordinator.take_fourth.Goals as goal

pub returns-in-Err-clause-carries : goal.returns-in-Err-clause-carries
returns-in-Err-clause-carries g c =
    let s : CoordinatorSession = record { server = c.session.inside.server; way = c.session.inside.way; since = c.session.inside.since } in
    rw (← c.session.view_is) (if_some (node_of c.args.self.now).memory _ (λ m running. refusal dropped (node_of c.args.self.now) m _ _ _ running
    (fourth_refused c.args.self.now.station.eui m s c.args.entry.now c.args.packet.now c.args.rand_p c.args.now _
    (at_some _ _ c.args.rand_p (rw (← c.session.view_is) at c.requires.awaits) c.in-Err.ensures.exact))
    (λ i. record { frames = (c.requires.ready.empty i).frames; tags = c.in-Err.ensures.untagged i })))

pub returns-in-Ok-clause-carries : goal.returns-in-Ok-clause-carries
returns-in-Ok-clause-carries g c =
    let s : CoordinatorSession = record { server = c.session.inside.server; way = c.session.inside.way; since = c.session.inside.since } in
    rw (← c.session.view_is) (if_some (node_of c.args.self.now).memory _ (λ m running. carried_by _ _ _ _ _ _
    (fourth_taken c.args.self.now.station.eui m s c.args.entry.now c.args.packet.now c.args.rand_p c.args.now _ _
    (none_mapped _ (at_some _ _ c.args.rand_p (rw (← c.session.view_is) at c.requires.awaits) c.in-Ok.ensures.exact))
    (agreed_is c.in-Ok.agreed s.server c.args.rand_p c.in-Ok.ensures.agreed.0 c.in-Ok.ensures.agreed.1 (rw (← c.session.view_is) at c.requires.awaits))
    (agreed_tags c.in-Ok.agreed s.server c.args.rand_p _ c.in-Ok.ensures.agreed.1 (rw (← c.session.view_is) at c.requires.awaits) c.in-Ok.ensures.tags))
    (at_some (node_of c.args.self.now).memory _ m running (rw (← c.session.view_is) at c.accept_meter.ensures.carries))))

pub accept_meter-requires-clause-quiet : goal.accept_meter-requires-clause-quiet
accept_meter-requires-clause-quiet g c = λ i. (c.requires.ready.empty i).frames
