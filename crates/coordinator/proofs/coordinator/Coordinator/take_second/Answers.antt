use Rattle.plc_station.proofs.CarriedPlans.{if_some, at_some}
use Rattle.node_rules.specs.Memory.{CoordinatorSession}
use Rattle.coordinator.specs.CoordinatorStates.{node_of}
use Rattle.node_rules.specs.HearingRules.{dropped}
use Rattle.coordinator.proofs.StoredChanges.{refusal, carried_by}
use Rattle.std.proofs.Common.{refl, sym, ap, ◌∙◌}
use Rattle.eap_psk.specs.declared.server.Server.{Server}
use Rattle.node_rules.specs.Coordinators.{sessions_full}
use Rattle.coordinator.proofs.PacketRules.{second_refused, second_taken, keys_plan, none_mapped}
use Rattle.coordinator.proofs.coordinator.Coordinator.take_second.Goals as goal

pub returns-in-Err-clause-carries : goal.returns-in-Err-clause-carries
returns-in-Err-clause-carries g c =
    let s : CoordinatorSession = record { server = c.session.inside.server; way = c.session.inside.way; since = c.session.inside.since } in
    rw (← c.session.view_is) (if_some (node_of c.args.self.now).memory _ (λ m running. refusal dropped (node_of c.args.self.now) m _ _ _ running
    (second_refused c.args.self.now.station.eui m s c.args.entry.now c.args.packet.now c.args.now _
    (rw c.in-Err.is at c.third_message-third.ensures.exact))
    (λ i. record { frames = (c.requires.ready.empty i).frames; tags = (rw c.in-Err.is at c.third_message-third.ensures.untagged) i })))

pub give_keys-requires-clause-quiet : goal.give_keys-requires-clause-quiet
give_keys-requires-clause-quiet g c = λ i. (c.requires.ready.empty i).frames

pub give_keys-requires-clause-session : goal.give_keys-requires-clause-session
give_keys-requires-clause-session g c =
    if_some (node_of c.args.self.now).memory _ (λ m running.
    ap (λ (x : Server). sessions_full m x.eui) (rw c.in-Ok.is at c.third_message-third.ensures.next)
    ∙ (at_some (node_of c.args.self.now).memory _ m running (rw (← c.session.view_is) at c.requires.served)).session)

pub give_keys-requires-clause-entry : goal.give_keys-requires-clause-entry
give_keys-requires-clause-entry g c =
    if_some (node_of c.args.self.now).memory _ (λ m running.
    (at_some (node_of c.args.self.now).memory _ m running c.requires.served).entry)

pub returns-in-Ok-clause-carries : goal.returns-in-Ok-clause-carries
returns-in-Ok-clause-carries g c =
    let s : CoordinatorSession = record { server = c.session.inside.server; way = c.session.inside.way; since = c.session.inside.since } in
    let next = rw c.in-Ok.is at c.third_message-third.ensures.next in
    let third = rw c.in-Ok.is at c.third_message-third.ensures.message in
    let tags = rw c.in-Ok.is at c.third_message-third.ensures.tags in
    let exact = rw c.in-Ok.is at c.third_message-third.ensures.exact in
    rw (← c.session.view_is) (if_some (node_of c.args.self.now).memory _ (λ m running. carried_by _ _ _ _ _ _
    (keys_plan c.args.self.now.station.eui m s c.args.entry.now c.args.packet.now c.args.now _ _ _ _ _ _ next refl third refl tags
    ∙ second_taken c.args.self.now.station.eui m s c.args.entry.now c.args.packet.now c.args.now _ (none_mapped _ exact)
    (sym c.unwrap-grant.ensures ∙ (at_some (node_of c.args.self.now).memory _ m running c.grant_for.ensures)))
    (at_some (node_of c.args.self.now).memory _ m running (rw (← c.session.view_is) at c.give_keys.ensures.carries))))
