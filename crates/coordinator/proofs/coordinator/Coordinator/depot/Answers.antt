use Rattle.std.proofs.Common.{refl, ap, ◌∙◌}
use Rattle.group_keys.specs.KeyBook as book
use Rattle.node_rules.specs.declared.refusal.CoordinatorRefusal.TheVariants.{MetersFull}
use Rattle.node_rules.specs.Coordinators.{orders, changed}
use Rattle.node_rules.specs.CarriedPlans.{nothing}
use Rattle.plc_station.proofs.CarriedPlans.{if_some, at_some}
use Rattle.coordinator.specs.CoordinatorStates.{node_of}
use Rattle.coordinator.proofs.StoredChanges.{refusal, by_some, not_none}
use Rattle.coordinator.proofs.BookEntries.{room_kept}
use Rattle.coordinator.proofs.DepotJoins.{depot_full, may_issue, runs, depot_done, depot_stopped, depot_unissued}
use Rattle.coordinator.proofs.coordinator.Coordinator.depot.Goals as goal

pub returns-then-not-has_room-clause-carries : goal.returns-then-not-has_room-clause-carries
returns-then-not-has_room-clause-carries g c =
    if_some (node_of c.args.self.now).memory _ (λ m running. refusal orders (node_of c.args.self.now) m MetersFull _ nothing running
    (depot_full m c.args.eui c.args.psk.now (at_some (node_of c.args.self.now).memory _ m running c.if-not-has_room.ensures)) refl)

pub enter-requires-clause-room : goal.enter-requires-clause-room
enter-requires-clause-room g c =
    if_some (node_of c.args.self.now).memory _ (λ m running. room_kept m c.args.eui c.args.psk.now _ _
    (at_some (node_of c.args.self.now).memory _ m running c.if-not-has_room.ensures) c.allowed-entry.ensures)

pub returns-in_default-clause-carries : goal.returns-in_default-clause-carries
returns-in_default-clause-carries g c =
    if_some (node_of c.args.self.now).memory _ (λ m running. depot_stopped (node_of c.args.self.now) _ m c.args.eui c.args.psk.now _
    (at_some (node_of c.args.self.now).memory _ m running c.requires.holds)
    (at_some (node_of c.args.self.now).memory _ m running c.if-not-has_room.ensures)
    (c.allowed-entry.ensures ∙ ap (book.allowed_entry c.args.eui c.args.psk.now) (at_some (node_of c.args.self.now).memory _ m running c.entry.ensures))
    (at_some (node_of c.args.self.now).memory _ m running c.in_default.ensures.does))

pub issue-requires-clause-ready : goal.issue-requires-clause-ready
issue-requires-clause-ready g c =
    record {
      running =
          by_some (node_of c.args.self.now).memory _ c.if-halted.ensures
          (λ m running. runs (node_of c.args.self.now) _ (changed m c.allowed-entry.result)
          (at_some (node_of c.args.self.now).memory _ m running c.in-Ok.ensures.does));
      holds = c.in-Ok.ensures.holds;
    }

pub issue-requires-clause-allowed : goal.issue-requires-clause-allowed
issue-requires-clause-allowed g c =
    by_some (node_of c.args.self.now).memory _ c.if-halted.ensures (λ m running. may_issue (node_of c.args.self.now) _ m c.args.eui c.args.psk.now _
    (c.allowed-entry.ensures ∙ ap (book.allowed_entry c.args.eui c.args.psk.now) (at_some (node_of c.args.self.now).memory _ m running c.entry.ensures))
    (at_some (node_of c.args.self.now).memory _ m running c.in-Ok.ensures.does))

pub returns-in_default-issue-clause-carries : goal.returns-in_default-issue-clause-carries
returns-in_default-issue-clause-carries g c =
    if_some (node_of c.args.self.now).memory _ (λ m running. depot_unissued (node_of c.args.self.now) _ _ m c.args.eui c.args.psk.now _
    (at_some (node_of c.args.self.now).memory _ m running c.requires.holds)
    (at_some (node_of c.args.self.now).memory _ m running c.if-not-has_room.ensures)
    (c.allowed-entry.ensures ∙ ap (book.allowed_entry c.args.eui c.args.psk.now) (at_some (node_of c.args.self.now).memory _ m running c.entry.ensures))
    (at_some (node_of c.args.self.now).memory _ m running c.in-Ok.ensures.does)
    c.in_default-issue.ensures.does)

pub returns-clause-carries : goal.returns-clause-carries
returns-clause-carries g c =
    if_some (node_of c.args.self.now).memory _ (λ m running. depot_done (node_of c.args.self.now) _ _ m c.args.eui c.args.psk.now _ _
    (at_some (node_of c.args.self.now).memory _ m running c.requires.holds)
    (at_some (node_of c.args.self.now).memory _ m running c.if-not-has_room.ensures)
    (c.allowed-entry.ensures ∙ ap (book.allowed_entry c.args.eui c.args.psk.now) (at_some (node_of c.args.self.now).memory _ m running c.entry.ensures))
    (at_some (node_of c.args.self.now).memory _ m running c.in-Ok.ensures.does)
    c.in-Ok-issue.ensures.granted c.in-Ok-issue.ensures.does)

pub returns-clause-halted : goal.returns-clause-halted
returns-clause-halted g c = not_none (node_of c.args.self.now).memory _ c.if-halted.ensures
