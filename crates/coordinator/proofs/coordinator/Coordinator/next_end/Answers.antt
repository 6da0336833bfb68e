use Rattle.std.proofs.Common.{sym, ◌∙◌}
use Rattle.plc_station.proofs.CarriedPlans.{at_some}
use Rattle.coordinator.specs.CoordinatorStates.{CoordinatorState, memory_in}
use Rattle.coordinator.proofs.StoredChanges.{on_parts}
use Rattle.coordinator.proofs.NextEnds.{is_first, is_first_alone}
use Rattle.coordinator.proofs.coordinator.Coordinator.next_end.Goals as goal

pub returns-then-count-eq0-clause-first : goal.returns-then-count-eq0-clause-first
returns-then-count-eq0-clause-first g c =
    let x : CoordinatorState = record {
      station = c.self.inside.station;
      randoms = c.self.inside.randoms;
      sessions = c.self.inside.sessions;
      book = c.self.inside.book;
    } in
    rw (← c.self.view_is) (on_parts x.station.memory (memory_in x.randoms x.sessions x.book) _ (λ l running.
    is_first_alone x l c.next_end-station.result (sym c.count.ensures.value ∙ c.if-count-eq0.true)
    (at_some x.station.memory _ l running c.next_end-station.ensures.first)))

pub returns-clause-first : goal.returns-clause-first
returns-clause-first g c =
    let x : CoordinatorState = record {
      station = c.self.inside.station;
      randoms = c.self.inside.randoms;
      sessions = c.self.inside.sessions;
      book = c.self.inside.book;
    } in
    rw (← c.self.view_is) (on_parts x.station.memory (memory_in x.randoms x.sessions x.book) _ (λ l running.
    rw c.first_end.ensures (is_first x l c.unwrap_or.result c.next_end-station.result c.unwrap_or.ensures
    (at_some x.station.memory _ l running c.next_end-station.ensures.first))))
