use Rattle.std.proofs.Common.{refl, ap, ◌∙◌}
use Rattle.group_keys.specs.KeyBook as book
use Rattle.node_rules.specs.declared.refusal.CoordinatorRefusal.TheVariants.{MetersFull}
use Rattle.node_rules.specs.Coordinators.{orders}
use Rattle.node_rules.specs.CarriedPlans.{nothing}
use Rattle.plc_station.proofs.CarriedPlans.{if_some, at_some}
use Rattle.coordinator.specs.CoordinatorStates.{node_of}
use Rattle.coordinator.proofs.StoredChanges.{refusal, not_none}
use Rattle.coordinator.proofs.BookEntries.{meters_full, room_kept, allow_done, allow_failed}
use Rattle.coordinator.proofs.coordinator.Coordinator.allow.Goals as goal

pub returns-then-not-has_room-clause-carries : goal.returns-then-not-has_room-clause-carries
returns-then-not-has_room-clause-carries g c =
    if_some (node_of c.args.self.now).memory _ (λ m running. refusal orders (node_of c.args.self.now) m MetersFull _ nothing running
    (meters_full m c.args.eui c.args.psk.now (at_some (node_of c.args.self.now).memory _ m running c.if-not-has_room.ensures)) refl)

pub enter-requires-clause-room : goal.enter-requires-clause-room
enter-requires-clause-room g c =
    if_some (node_of c.args.self.now).memory _ (λ m running. room_kept m c.args.eui c.args.psk.now _ _
    (at_some (node_of c.args.self.now).memory _ m running c.if-not-has_room.ensures) c.allowed-entry.ensures)

pub returns-in_default-clause-carries : goal.returns-in_default-clause-carries
returns-in_default-clause-carries g c =
    if_some (node_of c.args.self.now).memory _ (λ m running. allow_failed (node_of c.args.self.now) _ m c.args.eui c.args.psk.now _
    (at_some (node_of c.args.self.now).memory _ m running c.if-not-has_room.ensures)
    (c.allowed-entry.ensures ∙ ap (book.allowed_entry c.args.eui c.args.psk.now) (at_some (node_of c.args.self.now).memory _ m running c.entry.ensures))
    (at_some (node_of c.args.self.now).memory _ m running c.in_default.ensures.does))

pub returns-clause-carries : goal.returns-clause-carries
returns-clause-carries g c =
    if_some (node_of c.args.self.now).memory _ (λ m running. allow_done (node_of c.args.self.now) _ m c.args.eui c.args.psk.now _ _
    (at_some (node_of c.args.self.now).memory _ m running c.requires.holds)
    (at_some (node_of c.args.self.now).memory _ m running c.if-not-has_room.ensures)
    (c.allowed-entry.ensures ∙ ap (book.allowed_entry c.args.eui c.args.psk.now) (at_some (node_of c.args.self.now).memory _ m running c.entry.ensures))
    (at_some (node_of c.args.self.now).memory _ m running c.in-Ok.ensures.address) (at_some (node_of c.args.self.now).memory _ m running c.in-Ok.ensures.does))

pub returns-clause-halted : goal.returns-clause-halted
returns-clause-halted g c = not_none (node_of c.args.self.now).memory _ c.if-halted.ensures
