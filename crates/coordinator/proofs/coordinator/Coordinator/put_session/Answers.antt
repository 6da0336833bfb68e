use Rattle.coordinator.proofs.StoredChanges.{on_parts, by_some}
use Rattle.coordinator.proofs.Parts.{part_runs, part_says}
use Rattle.coordinator.proofs.Challenges.{beside_holds}
use Rattle.coordinator.proofs.PacketRules.{went_on}
use Rattle.coordinator.proofs.coordinator.Coordinator.put_session.Goals as goal

pub put-requires : goal.put-requires
put-requires g c =
    by_some c.self.inside.station.memory _ (part_runs c.self.inside.station.memory _ (rw (← c.self.view_is) at c.requires.ready.running)) (λ l running.
    part_says c.self.inside.randoms c.self.inside.sessions c.self.inside.book c.self.inside.station.store.records c.self.inside.station.memory _ l running
    (rw (← c.self.view_is) at c.requires.room))

pub returns-clause-state : goal.returns-clause-state
returns-clause-state g c =
    rw (← c.self.view_is) (on_parts c.self.inside.station.memory _ _ (λ l running.
    went_on c.self.inside.station c.self.inside.randoms c.self.inside.sessions _ c.self.inside.book c.args.session l running c.put.ensures))

pub returns-clause-holds : goal.returns-clause-holds
returns-clause-holds g c =
    beside_holds c.self.inside.station c.self.inside.randoms c.self.inside.randoms c.self.inside.sessions _ c.self.inside.book
    (rw (← c.self.view_is) at c.requires.ready.holds)
