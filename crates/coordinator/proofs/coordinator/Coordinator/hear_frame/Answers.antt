use Rattle.std.proofs.Common.{refl}
use Rattle.coordinator.specs.CoordinatorStates.{memory_in}
use Rattle.plc_station.proofs.CarriedPlans.{at_some}
use Rattle.coordinator.proofs.StoredChanges.{by_some}
use Rattle.coordinator.proofs.Parts.{part_runs, part_agrees, part_home, part_book}
use Rattle.coordinator.proofs.Within.{home_holds}
use Rattle.coordinator.proofs.LineRules.{hear_keeps}
use Rattle.coordinator.proofs.coordinator.Coordinator.hear_frame.Goals as goal

pub hear-requires : goal.hear-requires
hear-requires g c =
    record {
      ready = record {
        running = part_runs c.self.inside.station.memory _ (rw (← c.self.view_is) at c.requires.ready.running);
        agrees =
            part_agrees c.self.inside.randoms c.self.inside.sessions c.self.inside.book _ c.self.inside.station.memory
            (rw (← c.self.view_is) at c.requires.ready.holds);
      };
    }

pub returns-clause-holds : goal.returns-clause-holds
returns-clause-holds g c =
    by_some c.self.inside.station.memory _ (part_runs c.self.inside.station.memory _ (rw (← c.self.view_is) at c.requires.ready.running)) (λ l running.
    home_holds c.self.inside.station _ _ (memory_in c.self.inside.randoms c.self.inside.sessions c.self.inside.book) _ _ c.self.inside.book (λ n. refl)
    (λ n. refl) (at_some c.self.inside.station.memory _ l running c.hear.ensures.carries)
    (hear_keeps l (part_home c.self.inside.randoms c.self.inside.sessions c.self.inside.book _ c.self.inside.station.memory l running
    (rw (← c.self.view_is) at c.requires.ready.holds))
    (at_some c.self.inside.station.memory _ l running (part_agrees c.self.inside.randoms c.self.inside.sessions c.self.inside.book _
    c.self.inside.station.memory (rw (← c.self.view_is) at c.requires.ready.holds))).routing.ranks.short _ _ _ _)
    (part_book c.self.inside.randoms c.self.inside.sessions c.self.inside.book _ c.self.inside.station.memory
    (rw (← c.self.view_is) at c.requires.ready.running)
    (rw (← c.self.view_is) at c.requires.ready.holds)) c.hear.ensures.agrees)
