use Rattle.plc_station.proofs.CarriedPlans.{at_some}
use Rattle.coordinator.proofs.StoredChanges.{on_parts}
use Rattle.coordinator.proofs.Parts.{part_agrees}
use Rattle.coordinator.proofs.GivenRandoms.{random_carried}
use Rattle.coordinator.proofs.coordinator.Coordinator.take_random.Goals as goal

pub returns-clause-carries : goal.returns-clause-carries
returns-clause-carries g c =
    rw (← c.self.view_is) (on_parts c.self.inside.station.memory _ _ (λ l running.
    random_carried c.self.inside.station l running c.self.inside.randoms _ c.self.inside.sessions c.self.inside.book c.args.value _
    (at_some c.self.inside.station.memory _ l running (part_agrees c.self.inside.randoms c.self.inside.sessions c.self.inside.book _
    c.self.inside.station.memory (rw (← c.self.view_is) at c.requires.ready.holds))).counter.below
    c.give.ensures.taken c.give.ensures.full c.give.ensures.same))
