use Rattle.plc_station.proofs.CarriedPlans.{if_some, at_some}
use Rattle.node_rules.specs.Memory.{CoordinatorSession}
use Rattle.coordinator.specs.CoordinatorStates.{node_of}
use Rattle.node_rules.specs.HearingRules.{dropped}
use Rattle.coordinator.proofs.StoredChanges.{refusal, by_some}
use Rattle.std.proofs.Common.{Ok, Err}
use Rattle.group_keys.specs.declared.key_book.BookEntry.{BookEntry}
use Rattle.group_keys.specs.KeyBook.{issued_entry}
use Rattle.coordinator.specs.Packets.{noting}
use Rattle.coordinator.proofs.DepotJoins.{runs}
use Rattle.coordinator.proofs.PacketRules.{keys_lack, keys_stopped, keys_room, keys_given}
use Rattle.coordinator.proofs.coordinator.Coordinator.give_keys.Goals as goal

pub returns-in-Err-clause-carries : goal.returns-in-Err-clause-carries
returns-in-Err-clause-carries g c =
    let s : CoordinatorSession = record { server = c.args.server.now; way = c.session.inside.way; since = c.session.inside.since } in
    let e : BookEntry = issued_entry c.session.inside.server.eui c.args.grant.now c.args.entry.now in
    rw (← c.session.view_is) (if_some (node_of c.args.self.now).memory _
    (λ m running. refusal dropped (node_of c.args.self.now) m _ _ _ running
    (keys_lack (node_of c.args.self.now) m s e c.args.message.now c.args.grant.now c.args.out.now.tags c.args.now
    (at_some (node_of c.args.self.now).memory _ m running c.requires.ready.holds) _
    (at_some (node_of c.args.self.now).memory _ m running c.in-Err.ensures.refused))
    (λ i. record { frames = c.requires.quiet i; tags = c.clear.ensures i })))

pub returns-in_default-clause-carries : goal.returns-in_default-clause-carries
returns-in_default-clause-carries g c =
    let s : CoordinatorSession = record { server = c.args.server.now; way = c.session.inside.way; since = c.session.inside.since } in
    let e : BookEntry = issued_entry c.session.inside.server.eui c.args.grant.now c.args.entry.now in
    rw (← c.session.view_is) (if_some (node_of c.args.self.now).memory _
    (λ m running. keys_stopped (node_of c.args.self.now) m s e c.args.message.now c.args.grant.now c.args.out.now.tags c.args.now
    (at_some (node_of c.args.self.now).memory _ m running c.requires.ready.holds) _ _
    (at_some (node_of c.args.self.now).memory _ m running c.in-Ok.ensures.room)
    (at_some (node_of c.args.self.now).memory _ m running (rw (← c.session.view_is) at c.in_default.ensures.does))
    (λ i. record { frames = c.requires.quiet i; tags = record { made = c.clear-in_default.ensures i; opened = c.args.out.now.tags.opened } })))

pub say-requires-clause-ready : goal.say-requires-clause-ready
say-requires-clause-ready g c =
    record {
      running =
          let s : CoordinatorSession = record { server = c.args.server.now; way = c.session.inside.way; since = c.session.inside.since } in
          let e : BookEntry = issued_entry c.session.inside.server.eui c.args.grant.now c.args.entry.now in
          by_some (node_of c.args.self.now).memory _ c.requires.ready.running (λ m running. runs (node_of c.args.self.now) _ (noting m s e)
          (at_some (node_of c.args.self.now).memory _ m running (rw (← c.session.view_is) at c.in-Ok-note_keys.ensures.does)));
      holds = c.in-Ok-note_keys.ensures.holds;
    }

pub say-requires-clause-room : goal.say-requires-clause-room
say-requires-clause-room g c =
    let s : CoordinatorSession = record { server = c.args.server.now; way = c.session.inside.way; since = c.session.inside.since } in
    let e : BookEntry = issued_entry c.session.inside.server.eui c.args.grant.now c.args.entry.now in
    by_some (node_of c.args.self.now).memory _ c.requires.ready.running (λ m running. keys_room (node_of c.args.self.now) m s e c.args.message.now
    c.args.grant.now c.args.out.now.tags c.args.now (at_some (node_of c.args.self.now).memory _ m running c.requires.ready.holds)
    _ (at_some (node_of c.args.self.now).memory _ m running
    (rw (← c.session.view_is) at c.in-Ok-note_keys.ensures.does)) (at_some (node_of c.args.self.now).memory _ m running c.in-Ok.ensures.room))

pub returns-in_default-say-clause-carries : goal.returns-in_default-say-clause-carries
returns-in_default-say-clause-carries g c =
    let s : CoordinatorSession = record { server = c.args.server.now; way = c.session.inside.way; since = c.session.inside.since } in
    let e : BookEntry = issued_entry c.session.inside.server.eui c.args.grant.now c.args.entry.now in
    rw (← c.session.view_is) (if_some (node_of c.args.self.now).memory _
    (λ m running. keys_given (node_of c.args.self.now) m s e c.args.message.now c.args.grant.now c.args.out.now.tags c.args.now
    (at_some (node_of c.args.self.now).memory _ m running c.requires.ready.holds)
    _ _ (Err _) _ (at_some (node_of c.args.self.now).memory _ m running c.in-Ok.ensures.room)
    (at_some (node_of c.args.self.now).memory _ m running (rw (← c.session.view_is) at c.in-Ok-note_keys.ensures.does)) c.in_default-say.ensures.carries))

pub returns-clause-carries : goal.returns-clause-carries
returns-clause-carries g c =
    let s : CoordinatorSession = record { server = c.args.server.now; way = c.session.inside.way; since = c.session.inside.since } in
    let e : BookEntry = issued_entry c.session.inside.server.eui c.args.grant.now c.args.entry.now in
    rw (← c.session.view_is) (if_some (node_of c.args.self.now).memory _
    (λ m running. keys_given (node_of c.args.self.now) m s e c.args.message.now c.args.grant.now c.args.out.now.tags c.args.now
    (at_some (node_of c.args.self.now).memory _ m running c.requires.ready.holds)
    _ _ (Ok _) _ (at_some (node_of c.args.self.now).memory _ m running c.in-Ok.ensures.room)
    (at_some (node_of c.args.self.now).memory _ m running (rw (← c.session.view_is) at c.in-Ok-note_keys.ensures.does)) c.in-Ok-say.ensures.carries))
