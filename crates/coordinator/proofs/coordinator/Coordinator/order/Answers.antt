use Rattle.std.proofs.Common.{refl, ◌∙◌}
use Rattle.plc_station.proofs.CarriedPlans.{at_some}
use Rattle.coordinator.specs.CoordinatorStates.{memory_in}
use Rattle.coordinator.specs.OrderAnswers.{order_answer}
use Rattle.coordinator.proofs.StoredChanges.{on_parts, by_some, carried_by}
use Rattle.coordinator.proofs.Parts.{part_runs, part_agrees, part_home, part_book}
use Rattle.coordinator.proofs.Within.{within_carried, home_holds}
use Rattle.coordinator.proofs.CommandOrders.{order_plan, said, command_keeps}
use Rattle.coordinator.proofs.coordinator.Coordinator.order.Goals as goal

pub send_command-sent-requires-clause-agrees : goal.send_command-sent-requires-clause-agrees
send_command-sent-requires-clause-agrees g c =
    part_agrees c.self.inside.randoms c.self.inside.sessions c.self.inside.book _ c.self.inside.station.memory (rw (← c.self.view_is) at c.requires.ready.holds)

pub returns-clause-carries : goal.returns-clause-carries
returns-clause-carries g c =
    λ join is. rw (← c.self.view_is) (on_parts c.self.inside.station.memory _ _ (λ l running.
    said _ _ _ _ _ _ c.order_answer.ensures (carried_by _ _ _ _ _ _
    (order_plan (memory_in c.self.inside.randoms c.self.inside.sessions c.self.inside.book l) c.args.to join c.args.now
    (part_home c.self.inside.randoms c.self.inside.sessions c.self.inside.book _ c.self.inside.station.memory l running
    (rw (← c.self.view_is) at c.requires.ready.holds)))
    (within_carried (memory_in c.self.inside.randoms c.self.inside.sessions c.self.inside.book) order_answer c.self.inside.station _ _ _ _
    (rw (c.octets.ensures.value ∙ is) at
    (at_some c.self.inside.station.memory _ l running c.send_command-sent.ensures.carries))))))

pub returns-clause-holds : goal.returns-clause-holds
returns-clause-holds g c =
    by_some c.self.inside.station.memory _ (part_runs c.self.inside.station.memory _ (rw (← c.self.view_is) at c.requires.ready.running)) (λ l running.
    home_holds c.self.inside.station _ _ (memory_in c.self.inside.randoms c.self.inside.sessions c.self.inside.book) _ _ c.self.inside.book (λ n. refl)
    (λ n. refl) (at_some c.self.inside.station.memory _ l running c.send_command-sent.ensures.carries)
    (command_keeps l (part_home c.self.inside.randoms c.self.inside.sessions c.self.inside.book _ c.self.inside.station.memory l running
    (rw (← c.self.view_is) at c.requires.ready.holds)) c.args.to _ c.args.now)
    (part_book c.self.inside.randoms c.self.inside.sessions c.self.inside.book _ c.self.inside.station.memory
    (rw (← c.self.view_is) at c.requires.ready.running)
    (rw (← c.self.view_is) at c.requires.ready.holds)) c.send_command-sent.ensures.after.agrees)
