use Rattle.std.proofs.Common.{refl, ap, sym, subst}
use Rattle.std.specs.Option.{option_map}
use Rattle.group_keys.specs.KeyRing.{with_active}
use Rattle.node_rules.specs.Calls.{ringing_ends}
use Rattle.node_rules.specs.Drafts.{empty_draft, with_ring}
use Rattle.node_rules.specs.Coordinators.{orders}
use Rattle.node_rules.specs.CarriedPlans.{nothing}
use Rattle.plc_station.proofs.CarriedPlans.{at_some}
use Rattle.coordinator.proofs.OtherWords.{done_as, failed_as}
use Rattle.plc_station.proofs.EndedSteps.{carried_by as station_by}
use Rattle.coordinator.specs.CoordinatorStates.{memory_in}
use Rattle.coordinator.proofs.StoredChanges.{on_parts, by_some, carried_by}
use Rattle.coordinator.proofs.Parts.{part_runs, part_agrees, part_home, part_book}
use Rattle.coordinator.proofs.RingOrders.{active_plan}
use Rattle.coordinator.proofs.Within.{within_carried, ring_plan, KeepsHome, home_holds, ring_keeps, ring_home, active_home}
use Rattle.coordinator.proofs.coordinator.Coordinator.set_active.Goals as goal

pub activate-requires : goal.activate-requires
activate-requires g c =
    record {
      agrees =
          part_agrees c.self.inside.randoms c.self.inside.sessions c.self.inside.book _ c.self.inside.station.memory
          (rw (← c.self.view_is) at c.requires.ready.holds);
    }

pub returns-in_default-clause-carries : goal.returns-in_default-clause-carries
returns-in_default-clause-carries g c =
    rw (← c.self.view_is) (on_parts c.self.inside.station.memory _ _ (λ l running.
    carried_by _ _ _ _ _ _ (ring_plan (memory_in c.self.inside.randoms c.self.inside.sessions c.self.inside.book l) (with_active l.ring c.args.index))
    (within_carried (memory_in c.self.inside.randoms c.self.inside.sessions c.self.inside.book) (λ a. a) c.self.inside.station _ _ _ nothing
    (failed_as ringing_ends orders _ _ (with_ring (with_active l.ring c.args.index) (empty_draft l)) _ tt nothing
    (station_by c.self.inside.station _ _ _ _ nothing (active_plan l c.args.index
    (at_some _ _ (memory_in c.self.inside.randoms c.self.inside.sessions c.self.inside.book l)
    (ap (option_map (memory_in c.self.inside.randoms c.self.inside.sessions c.self.inside.book)) running) (rw (← c.self.view_is) at c.requires.held)))
    (at_some c.self.inside.station.memory _ l running c.in_default.ensures.carries))))))

pub returns-clause-carries : goal.returns-clause-carries
returns-clause-carries g c =
    rw (← c.self.view_is) (on_parts c.self.inside.station.memory _ _ (λ l running.
    carried_by _ _ _ _ _ _ (ring_plan (memory_in c.self.inside.randoms c.self.inside.sessions c.self.inside.book l) (with_active l.ring c.args.index))
    (within_carried (memory_in c.self.inside.randoms c.self.inside.sessions c.self.inside.book) (λ a. a) c.self.inside.station _ _ _ nothing
    (done_as ringing_ends orders _ _ (with_ring (with_active l.ring c.args.index) (empty_draft l)) _ tt nothing
    (station_by c.self.inside.station _ _ _ _ nothing (active_plan l c.args.index
    (at_some _ _ (memory_in c.self.inside.randoms c.self.inside.sessions c.self.inside.book l)
    (ap (option_map (memory_in c.self.inside.randoms c.self.inside.sessions c.self.inside.book)) running) (rw (← c.self.view_is) at c.requires.held)))
    (at_some c.self.inside.station.memory _ l running c.in-Ok.ensures.carries))))))

pub returns-in_default-clause-holds : goal.returns-in_default-clause-holds
returns-in_default-clause-holds g c =
    by_some c.self.inside.station.memory _ (part_runs c.self.inside.station.memory _ (rw (← c.self.view_is) at c.requires.ready.running)) (λ l running.
    home_holds c.self.inside.station _ _ (memory_in c.self.inside.randoms c.self.inside.sessions c.self.inside.book) _ nothing c.self.inside.book (λ n. refl)
    (λ n. refl) (at_some c.self.inside.station.memory _ l running c.in_default.ensures.carries)
    (subst (λ p. KeepsHome p) (sym (active_plan l c.args.index (at_some _ _ (memory_in c.self.inside.randoms c.self.inside.sessions c.self.inside.book l)
    (ap (option_map (memory_in c.self.inside.randoms c.self.inside.sessions c.self.inside.book)) running) (rw (← c.self.view_is) at c.requires.held))))
    (ring_keeps ringing_ends tt l (with_active l.ring c.args.index)
    (active_home l.ring c.args.index (part_home c.self.inside.randoms c.self.inside.sessions c.self.inside.book _ c.self.inside.station.memory l running
    (rw (← c.self.view_is) at c.requires.ready.holds)))))
    (part_book c.self.inside.randoms c.self.inside.sessions c.self.inside.book _ c.self.inside.station.memory
    (rw (← c.self.view_is) at c.requires.ready.running) (rw (← c.self.view_is) at c.requires.ready.holds)) c.in_default.ensures.after.agrees)

pub returns-clause-holds : goal.returns-clause-holds
returns-clause-holds g c =
    by_some c.self.inside.station.memory _ (part_runs c.self.inside.station.memory _ (rw (← c.self.view_is) at c.requires.ready.running)) (λ l running.
    home_holds c.self.inside.station _ _ (memory_in c.self.inside.randoms c.self.inside.sessions c.self.inside.book) _ nothing c.self.inside.book (λ n. refl)
    (λ n. refl) (at_some c.self.inside.station.memory _ l running c.in-Ok.ensures.carries)
    (subst (λ p. KeepsHome p) (sym (active_plan l c.args.index (at_some _ _ (memory_in c.self.inside.randoms c.self.inside.sessions c.self.inside.book l)
    (ap (option_map (memory_in c.self.inside.randoms c.self.inside.sessions c.self.inside.book)) running) (rw (← c.self.view_is) at c.requires.held))))
    (ring_keeps ringing_ends tt l (with_active l.ring c.args.index)
    (active_home l.ring c.args.index (part_home c.self.inside.randoms c.self.inside.sessions c.self.inside.book _ c.self.inside.station.memory l running
    (rw (← c.self.view_is) at c.requires.ready.holds)))))
    (part_book c.self.inside.randoms c.self.inside.sessions c.self.inside.book _ c.self.inside.station.memory
    (rw (← c.self.view_is) at c.requires.ready.running) (rw (← c.self.view_is) at c.requires.ready.holds)) c.in-Ok.ensures.after.agrees)

pub returns-in_default-clause-home : goal.returns-in_default-clause-home
returns-in_default-clause-home g c =
    rw (← c.self.view_is) (by_some c.self.inside.station.memory _ (part_runs c.self.inside.station.memory _ (rw (← c.self.view_is) at c.requires.ready.running))
    (λ l running.
    ring_home (with_active l.ring c.args.index) _ _ (active_home l.ring c.args.index
    (part_home c.self.inside.randoms c.self.inside.sessions c.self.inside.book _ c.self.inside.station.memory l running
    (rw (← c.self.view_is) at c.requires.ready.holds))) (at_some c.self.inside.station.memory _ l running c.in_default.ensures.either)))

pub returns-clause-home : goal.returns-clause-home
returns-clause-home g c =
    rw (← c.self.view_is) (by_some c.self.inside.station.memory _ (part_runs c.self.inside.station.memory _ (rw (← c.self.view_is) at c.requires.ready.running))
    (λ l running.
    ring_home (with_active l.ring c.args.index) _ _ (active_home l.ring c.args.index
    (part_home c.self.inside.randoms c.self.inside.sessions c.self.inside.book _ c.self.inside.station.memory l running
    (rw (← c.self.view_is) at c.requires.ready.holds))) (at_some c.self.inside.station.memory _ l running c.in-Ok.ensures.either)))
