use Rattle.std.proofs.Common.{refl}
use Rattle.group_keys.specs.KeyRing.{with_key}
use Rattle.node_rules.specs.Calls.{ringing_ends}
use Rattle.node_rules.specs.Drafts.{empty_draft, with_ring}
use Rattle.node_rules.specs.Coordinators.{orders}
use Rattle.node_rules.specs.CarriedPlans.{nothing}
use Rattle.plc_station.proofs.CarriedPlans.{at_some}
use Rattle.coordinator.proofs.OtherWords.{done_as, failed_as}
use Rattle.coordinator.specs.CoordinatorStates.{memory_in}
use Rattle.coordinator.proofs.StoredChanges.{on_parts, by_some, carried_by}
use Rattle.coordinator.proofs.Parts.{part_runs, part_agrees, part_ring, part_home, part_book}
use Rattle.coordinator.proofs.Within.{within_carried, ring_plan, home_holds, ring_keeps, ring_home, keyed_home}
use Rattle.coordinator.proofs.coordinator.Coordinator.draw.Goals as goal

pub put_key-requires : goal.put_key-requires
put_key-requires g c =
    record {
      agrees =
          part_agrees c.self.inside.randoms c.self.inside.sessions c.self.inside.book _ c.self.inside.station.memory
          (rw (← c.self.view_is) at c.requires.ready.holds);
    }

pub returns-in_default-clause-carries : goal.returns-in_default-clause-carries
returns-in_default-clause-carries g c =
    rw (← c.self.view_is) (on_parts c.self.inside.station.memory _ _ (λ l running.
    carried_by _ _ _ _ _ _ (ring_plan (memory_in c.self.inside.randoms c.self.inside.sessions c.self.inside.book l)
    (with_key l.ring c.args.index c.args.key.now))
    (within_carried (memory_in c.self.inside.randoms c.self.inside.sessions c.self.inside.book) (λ a. a) c.self.inside.station _ _ _ nothing
    (failed_as ringing_ends orders _ _ (with_ring (with_key l.ring c.args.index c.args.key.now) (empty_draft l)) _ tt nothing
    (at_some c.self.inside.station.memory _ l running c.in_default.ensures.carries (part_ring c.self.inside.randoms c.self.inside.sessions c.self.inside.book _
    c.self.inside.station.memory l running (rw (← c.self.view_is) at c.requires.ready.holds)))))))

pub returns-clause-carries : goal.returns-clause-carries
returns-clause-carries g c =
    rw (← c.self.view_is) (on_parts c.self.inside.station.memory _ _ (λ l running.
    carried_by _ _ _ _ _ _ (ring_plan (memory_in c.self.inside.randoms c.self.inside.sessions c.self.inside.book l)
    (with_key l.ring c.args.index c.args.key.now))
    (within_carried (memory_in c.self.inside.randoms c.self.inside.sessions c.self.inside.book) (λ a. a) c.self.inside.station _ _ _ nothing
    (done_as ringing_ends orders _ _ (with_ring (with_key l.ring c.args.index c.args.key.now) (empty_draft l)) _ tt nothing
    (at_some c.self.inside.station.memory _ l running c.in-Ok.ensures.carries (part_ring c.self.inside.randoms c.self.inside.sessions c.self.inside.book _
    c.self.inside.station.memory l running (rw (← c.self.view_is) at c.requires.ready.holds)))))))

pub returns-in_default-clause-holds : goal.returns-in_default-clause-holds
returns-in_default-clause-holds g c =
    by_some c.self.inside.station.memory _ (part_runs c.self.inside.station.memory _ (rw (← c.self.view_is) at c.requires.ready.running)) (λ l running.
    home_holds c.self.inside.station _ _ (memory_in c.self.inside.randoms c.self.inside.sessions c.self.inside.book) _ nothing c.self.inside.book (λ n. refl)
    (λ n. refl) (at_some c.self.inside.station.memory _ l running c.in_default.ensures.carries
    (part_ring c.self.inside.randoms c.self.inside.sessions c.self.inside.book _
    c.self.inside.station.memory l running (rw (← c.self.view_is) at c.requires.ready.holds)))
    (ring_keeps ringing_ends tt l (with_key l.ring c.args.index c.args.key.now)
    (keyed_home l.ring c.args.index c.args.key.now (part_home c.self.inside.randoms c.self.inside.sessions c.self.inside.book _ c.self.inside.station.memory l
    running (rw (← c.self.view_is) at c.requires.ready.holds)))) (part_book c.self.inside.randoms c.self.inside.sessions c.self.inside.book _
    c.self.inside.station.memory (rw (← c.self.view_is) at c.requires.ready.running) (rw (← c.self.view_is) at c.requires.ready.holds))
    c.in_default.ensures.after.agrees)

pub returns-clause-holds : goal.returns-clause-holds
returns-clause-holds g c =
    by_some c.self.inside.station.memory _ (part_runs c.self.inside.station.memory _ (rw (← c.self.view_is) at c.requires.ready.running)) (λ l running.
    home_holds c.self.inside.station _ _ (memory_in c.self.inside.randoms c.self.inside.sessions c.self.inside.book) _ nothing c.self.inside.book (λ n. refl)
    (λ n. refl) (at_some c.self.inside.station.memory _ l running c.in-Ok.ensures.carries
    (part_ring c.self.inside.randoms c.self.inside.sessions c.self.inside.book _
    c.self.inside.station.memory l running (rw (← c.self.view_is) at c.requires.ready.holds)))
    (ring_keeps ringing_ends tt l (with_key l.ring c.args.index c.args.key.now)
    (keyed_home l.ring c.args.index c.args.key.now (part_home c.self.inside.randoms c.self.inside.sessions c.self.inside.book _ c.self.inside.station.memory l
    running (rw (← c.self.view_is) at c.requires.ready.holds)))) (part_book c.self.inside.randoms c.self.inside.sessions c.self.inside.book _
    c.self.inside.station.memory (rw (← c.self.view_is) at c.requires.ready.running) (rw (← c.self.view_is) at c.requires.ready.holds))
    c.in-Ok.ensures.after.agrees)

pub returns-in_default-clause-home : goal.returns-in_default-clause-home
returns-in_default-clause-home g c =
    rw (← c.self.view_is) (by_some c.self.inside.station.memory _ (part_runs c.self.inside.station.memory _ (rw (← c.self.view_is) at c.requires.ready.running))
    (λ l running.
    ring_home (with_key l.ring c.args.index c.args.key.now) _ _ (keyed_home l.ring c.args.index c.args.key.now
    (part_home c.self.inside.randoms c.self.inside.sessions c.self.inside.book _ c.self.inside.station.memory l running
    (rw (← c.self.view_is) at c.requires.ready.holds))) (at_some c.self.inside.station.memory _ l running c.in_default.ensures.either)))

pub returns-clause-home : goal.returns-clause-home
returns-clause-home g c =
    rw (← c.self.view_is) (by_some c.self.inside.station.memory _ (part_runs c.self.inside.station.memory _ (rw (← c.self.view_is) at c.requires.ready.running))
    (λ l running.
    ring_home (with_key l.ring c.args.index c.args.key.now) _ _ (keyed_home l.ring c.args.index c.args.key.now
    (part_home c.self.inside.randoms c.self.inside.sessions c.self.inside.book _ c.self.inside.station.memory l running
    (rw (← c.self.view_is) at c.requires.ready.holds))) (at_some c.self.inside.station.memory _ l running c.in-Ok.ensures.either)))
