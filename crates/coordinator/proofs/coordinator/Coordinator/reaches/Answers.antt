use Rattle.plc_station.proofs.CarriedPlans.{at_some}
use Rattle.coordinator.proofs.StoredChanges.{on_parts}
use Rattle.coordinator.proofs.Parts.{part_home}
use Rattle.coordinator.proofs.CommandRoutes.{no_route, no_counter, reached}
use Rattle.coordinator.proofs.coordinator.Coordinator.reaches.Goals as goal

pub returns-in_default : goal.returns-in_default
returns-in_default g c =
    rw (← c.self.view_is) (on_parts c.self.inside.station.memory _ _ (λ l running.
    no_route l c.args.to (part_home c.self.inside.randoms c.self.inside.sessions c.self.inside.book _ c.self.inside.station.memory l running
    (rw (← c.self.view_is) at c.requires.ready.holds)) (at_some c.self.inside.station.memory _ l running c.in_default.ensures.route)))

pub returns-in_default-room : goal.returns-in_default-room
returns-in_default-room g c =
    rw (← c.self.view_is) (on_parts c.self.inside.station.memory _ _ (λ l running.
    no_counter l c.args.to _ 1 _ (part_home c.self.inside.randoms c.self.inside.sessions c.self.inside.book _ c.self.inside.station.memory l running
    (rw (← c.self.view_is) at c.requires.ready.holds)) (at_some c.self.inside.station.memory _ l running c.in-Some.ensures.route)
    (at_some c.self.inside.station.memory _ l running c.in_default-room.ensures.room)))

pub returns : goal.returns
returns g c =
    rw (← c.self.view_is) (on_parts c.self.inside.station.memory _ _ (λ l running.
    reached l c.args.to _ 1 _ (part_home c.self.inside.randoms c.self.inside.sessions c.self.inside.book _ c.self.inside.station.memory l running
    (rw (← c.self.view_is) at c.requires.ready.holds)) (at_some c.self.inside.station.memory _ l running c.in-Some.ensures.route)
    (at_some c.self.inside.station.memory _ l running c.in-Ok.ensures.room)))
