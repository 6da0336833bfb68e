use Rattle.std.proofs.Common.{refl, ap, sym}
use Rattle.std.specs.Option.{option_map}
use Rattle.node_rules.specs.ComposedPlans.{answer_if_sent}
use Rattle.node_rules.specs.Coordinators.{orders}
use Rattle.node_rules.proofs.ComposedPlans.{command_sent}
use Rattle.plc_station.proofs.CarriedPlans.{at_some}
use Rattle.plc_station.proofs.EndedSteps.{carried_by as station_by}
use Rattle.coordinator.specs.CoordinatorStates.{memory_in}
use Rattle.coordinator.proofs.StoredChanges.{on_parts, by_some}
use Rattle.coordinator.proofs.Parts.{part_runs, part_agrees, part_home, part_book}
use Rattle.coordinator.proofs.Within.{within_carried, home_holds}
use Rattle.coordinator.proofs.CommandOrders.{command_keeps}
use Rattle.coordinator.proofs.coordinator.Coordinator.send_in_room.Goals as goal

pub send_command-requires-clause-agrees : goal.send_command-requires-clause-agrees
send_command-requires-clause-agrees g c =
    part_agrees c.self.inside.randoms c.self.inside.sessions c.self.inside.book _ c.self.inside.station.memory (rw (← c.self.view_is) at c.requires.ready.holds)

pub returns-in_default-clause-carries : goal.returns-in_default-clause-carries
returns-in_default-clause-carries g c =
    rw (← c.self.view_is) (on_parts c.self.inside.station.memory _ _ (λ l running.
    (within_carried (memory_in c.self.inside.randoms c.self.inside.sessions c.self.inside.book) (answer_if_sent orders tt) c.self.inside.station _ _ _ _
    (station_by c.self.inside.station _ _ _ _ _ (sym (command_sent 0 c.args.to c.args.command.now c.args.now l
    (part_home c.self.inside.randoms c.self.inside.sessions c.self.inside.book _ c.self.inside.station.memory l running
    (rw (← c.self.view_is) at c.requires.ready.holds))
    (at_some _ _ (memory_in c.self.inside.randoms c.self.inside.sessions c.self.inside.book l)
    (ap (option_map (memory_in c.self.inside.randoms c.self.inside.sessions c.self.inside.book)) running) (rw (← c.self.view_is) at c.requires.room))))
    (rw c.octets.ensures.value at (at_some c.self.inside.station.memory _ l running c.in_default.ensures.carries))))))

pub returns-clause-carries : goal.returns-clause-carries
returns-clause-carries g c =
    rw (← c.self.view_is) (on_parts c.self.inside.station.memory _ _ (λ l running.
    (within_carried (memory_in c.self.inside.randoms c.self.inside.sessions c.self.inside.book) (answer_if_sent orders tt) c.self.inside.station _ _ _ _
    (station_by c.self.inside.station _ _ _ _ _ (sym (command_sent 0 c.args.to c.args.command.now c.args.now l
    (part_home c.self.inside.randoms c.self.inside.sessions c.self.inside.book _ c.self.inside.station.memory l running
    (rw (← c.self.view_is) at c.requires.ready.holds))
    (at_some _ _ (memory_in c.self.inside.randoms c.self.inside.sessions c.self.inside.book l)
    (ap (option_map (memory_in c.self.inside.randoms c.self.inside.sessions c.self.inside.book)) running) (rw (← c.self.view_is) at c.requires.room))))
    (rw c.octets.ensures.value at (at_some c.self.inside.station.memory _ l running c.in-Ok.ensures.carries))))))

pub returns-in_default-clause-holds : goal.returns-in_default-clause-holds
returns-in_default-clause-holds g c =
    by_some c.self.inside.station.memory _ (part_runs c.self.inside.station.memory _ (rw (← c.self.view_is) at c.requires.ready.running)) (λ l running.
    home_holds c.self.inside.station _ _ (memory_in c.self.inside.randoms c.self.inside.sessions c.self.inside.book) _ _ c.self.inside.book (λ n. refl)
    (λ n. refl) (at_some c.self.inside.station.memory _ l running c.in_default.ensures.carries)
    (command_keeps l (part_home c.self.inside.randoms c.self.inside.sessions c.self.inside.book _ c.self.inside.station.memory l running
    (rw (← c.self.view_is) at c.requires.ready.holds)) c.args.to _ c.args.now)
    (part_book c.self.inside.randoms c.self.inside.sessions c.self.inside.book _ c.self.inside.station.memory
    (rw (← c.self.view_is) at c.requires.ready.running)
    (rw (← c.self.view_is) at c.requires.ready.holds)) c.in_default.ensures.after.agrees)

pub returns-clause-holds : goal.returns-clause-holds
returns-clause-holds g c =
    by_some c.self.inside.station.memory _ (part_runs c.self.inside.station.memory _ (rw (← c.self.view_is) at c.requires.ready.running)) (λ l running.
    home_holds c.self.inside.station _ _ (memory_in c.self.inside.randoms c.self.inside.sessions c.self.inside.book) _ _ c.self.inside.book (λ n. refl)
    (λ n. refl) (at_some c.self.inside.station.memory _ l running c.in-Ok.ensures.carries)
    (command_keeps l (part_home c.self.inside.randoms c.self.inside.sessions c.self.inside.book _ c.self.inside.station.memory l running
    (rw (← c.self.view_is) at c.requires.ready.holds)) c.args.to _ c.args.now)
    (part_book c.self.inside.randoms c.self.inside.sessions c.self.inside.book _ c.self.inside.station.memory
    (rw (← c.self.view_is) at c.requires.ready.running)
    (rw (← c.self.view_is) at c.requires.ready.holds)) c.in-Ok.ensures.after.agrees)
