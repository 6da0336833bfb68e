use Rattle.plc_station.proofs.CarriedPlans.{at_some}
use Rattle.coordinator.proofs.StoredChanges.{on_parts}
use Rattle.coordinator.proofs.Parts.{part_home}
use Rattle.coordinator.proofs.CommandRoutes.{command_room, command_lacks}
use Rattle.coordinator.proofs.coordinator.Coordinator.room_for.Goals as goal

pub returns-in-Ok-clause-room : goal.returns-in-Ok-clause-room
returns-in-Ok-clause-room g c =
    rw (← c.self.view_is) (on_parts c.self.inside.station.memory _ _ (λ l running.
    command_room l c.args.to c.args.octets _ (part_home c.self.inside.randoms c.self.inside.sessions c.self.inside.book _ c.self.inside.station.memory l running
    (rw (← c.self.view_is) at c.requires.ready.holds)) (at_some c.self.inside.station.memory _ l running c.in-Ok.ensures.room)))

pub returns-in-Err-clause-refused : goal.returns-in-Err-clause-refused
returns-in-Err-clause-refused g c =
    rw (← c.self.view_is) (on_parts c.self.inside.station.memory _ _ (λ l running.
    command_lacks l c.args.to c.args.octets _ _ (part_home c.self.inside.randoms c.self.inside.sessions c.self.inside.book _ c.self.inside.station.memory l
    running (rw (← c.self.view_is) at c.requires.ready.holds)) (at_some c.self.inside.station.memory _ l running c.in-Err.ensures.room)
    c.order_refusal.ensures))
