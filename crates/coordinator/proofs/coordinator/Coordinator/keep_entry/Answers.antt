use Rattle.std.proofs.Common.{false, sym, subst}
use Rattle.node_rules.specs.Memory.{StationMemory}
use Rattle.node_rules.specs.Drafts.{empty_draft}
use Rattle.node_rules.specs.Coordinators.{with_book_entry}
use Rattle.node_rules.specs.States.{State}
use Rattle.coordinator.specs.CoordinatorStates.{memory_in, state_in}
use Rattle.coordinator.specs.DraftsCarriedOut.{Does}
use Rattle.coordinator.proofs.StoredChanges.{on_parts}
use Rattle.coordinator.proofs.BookPuts.{booked, unbooked}
use Rattle.coordinator.proofs.coordinator.Coordinator.keep_entry.Goals as goal

pub returns-in_default-clause-does : goal.returns-in_default-clause-does
returns-in_default-clause-does g c =
    rw (← c.self.view_is) (on_parts c.self.inside.station.memory _ _ (λ l running.
    subst (λ (x : State StationMemory). Does (state_in c.self.inside.station c.self.inside.randoms c.self.inside.sessions c.self.inside.book)
    (with_book_entry c.args.entry (empty_draft (memory_in c.self.inside.randoms c.self.inside.sessions c.self.inside.book l))) false
    (state_in x c.self.inside.randoms c.self.inside.sessions c.change.new.self)) (sym c.halt.ensures)
    (unbooked c.self.inside.station c.self.inside.randoms c.self.inside.sessions c.self.inside.book c.change.new.self c.args.entry _ _
    c.keeper_mut.ensures.value l c.in_default.ensures.store)))

pub returns-clause-does : goal.returns-clause-does
returns-clause-does g c =
    rw (← c.self.view_is) (on_parts c.self.inside.station.memory _ _ (λ l running.
    booked c.self.inside.station c.self.inside.randoms c.self.inside.sessions c.self.inside.book c.change.new.self c.args.entry _ _ c.keeper_mut.ensures.value l
    running c.in-Ok.ensures.store c.in-Ok.ensures.book))
