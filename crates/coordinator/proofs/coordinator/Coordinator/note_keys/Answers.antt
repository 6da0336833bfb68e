use Rattle.plc_station.proofs.CarriedPlans.{if_some, at_some}
use Rattle.node_rules.specs.Memory.{CoordinatorSession}
use Rattle.coordinator.specs.CoordinatorStates.{node_of}
use Rattle.std.proofs.Common.{true, false, ap, ◌∙◌}
use Rattle.group_keys.specs.declared.key_book.BookEntry.{BookEntry}
use Rattle.group_keys.specs.KeyBook.{has_room}
use Rattle.coordinator.proofs.StoredChanges.{by_some}
use Rattle.coordinator.proofs.Challenges.{session_runs}
use Rattle.coordinator.proofs.PacketRules.{noted_as, entry_room}
use Rattle.coordinator.proofs.coordinator.Coordinator.note_keys.Goals as goal

pub keep_entry-requires-clause-ready : goal.keep_entry-requires-clause-ready
keep_entry-requires-clause-ready g c =
    record {
      running =
          by_some (node_of c.args.self.now).memory _ c.requires.ready.running
          (λ m running. session_runs (node_of c.args.self.now) _ _ (at_some (node_of c.args.self.now).memory _ m running c.put_session.ensures.state));
      holds = c.put_session.ensures.holds;
    }

pub keep_entry-requires-clause-room : goal.keep_entry-requires-clause-room
keep_entry-requires-clause-room g c =
    let s : CoordinatorSession = record { server = c.args.server.now; way = c.session.inside.way; since = c.session.inside.since } in
    by_some (node_of c.args.self.now).memory _ c.requires.ready.running (λ m running. entry_room (node_of c.args.self.now) m s c.issued.result _
    (at_some (node_of c.args.self.now).memory _ m running c.put_session.ensures.state)
    (ap (λ (x : BookEntry). has_room m.book x.eui) c.issued.ensures
    ∙ at_some (node_of c.args.self.now).memory _ m running (rw (← c.session.view_is) at c.requires.entry)))

pub returns-in_default-clause-does : goal.returns-in_default-clause-does
returns-in_default-clause-does g c =
    let s : CoordinatorSession = record { server = c.args.server.now; way = c.session.inside.way; since = c.session.inside.since } in
    rw (← c.session.view_is) (if_some (node_of c.args.self.now).memory _ (λ m running. noted_as (node_of c.args.self.now) m s c.issued.result _
    c.issued.ensures _ _ false
    (at_some (node_of c.args.self.now).memory _ m running c.put_session.ensures.state) c.in_default.ensures.does))

pub returns-clause-does : goal.returns-clause-does
returns-clause-does g c =
    let s : CoordinatorSession = record { server = c.args.server.now; way = c.session.inside.way; since = c.session.inside.since } in
    rw (← c.session.view_is) (if_some (node_of c.args.self.now).memory _ (λ m running. noted_as (node_of c.args.self.now) m s c.issued.result _
    c.issued.ensures _ _ true
    (at_some (node_of c.args.self.now).memory _ m running c.put_session.ensures.state) c.in-Ok.ensures.does))
