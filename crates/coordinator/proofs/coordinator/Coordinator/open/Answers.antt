use Rattle.std.proofs.Common.{Ok, Err, [], sym, subst}
use Rattle.std.specs.Prelude.{IsSome}
use Rattle.plc_base.specs.Keeper.{Store}
use Rattle.node_rules.specs.declared.refusal.RingRefusal.TheVariants as rings
use Rattle.node_rules.specs.Memory.{StationMemory, Memory}
use Rattle.node_rules.specs.States.{State}
use Rattle.coordinator.specs.CoordinatorStates.{state_in}
use Rattle.coordinator.specs.CoordinatorStart.{Begins, halted_state}
use Rattle.coordinator.proofs.Beginnings.{Begun, begins, refuses, begun}
use Rattle.coordinator.proofs.coordinator.Coordinator.open.Goals as goal

pub returns-in_default-clause-refused : goal.returns-in_default-clause-refused
returns-in_default-clause-refused g c =
    let s = g.K.Keeper.store c.args.keeper in
    let b = c.in-Ok-open_book.book in
    subst (λ (k : Store). Begins s c.args.eui c.args.key.now (Err rings.Store) (halted_state k c.args.eui)) (sym c.into_keeper-in_default.ensures.store)
    (refuses s c.args.eui c.args.key.now b c.in-Ok.station c.in-Ok.ensures.opened c.in-Ok.ensures.running c.in-Ok-open_book.ensures.read
    c.in_default.field-0 (state_in c.begin.new.station [] [] b)
    (subst (λ (k : State StationMemory). Begun s c.args.eui c.args.key.now b k (Err c.in_default.field-0) (state_in c.begin.new.station [] [] b))
    c.in-Ok-open_book.ensures.same (c.in_default.ensures.carries b)))

pub returns-clause-opened : goal.returns-clause-opened
returns-clause-opened g c =
    let s = g.K.Keeper.store c.args.keeper in
    let b = c.in-Ok-open_book.book in
    subst (λ (m : State Memory). Begins s c.args.eui c.args.key.now (Ok tt) m)
    (λ i. state_in c.begin.new.station (sym c.new.ensures i) (sym c.new-2.ensures i) b)
    (begins s c.args.eui c.args.key.now b c.in-Ok.station c.in-Ok.ensures.opened c.in-Ok.ensures.running c.in-Ok-open_book.ensures.read
    (Ok tt) (state_in c.begin.new.station [] [] b)
    (subst (λ (k : State StationMemory). Begun s c.args.eui c.args.key.now b k (Ok tt) (state_in c.begin.new.station [] [] b))
    c.in-Ok-open_book.ensures.same (c.in-Ok-begin.ensures.carries b)))

pub returns-clause-running : goal.returns-clause-running
returns-clause-running g c =
    let s = g.K.Keeper.store c.args.keeper in
    let b = c.in-Ok-open_book.book in
    subst (λ (m : State Memory). IsSome m.memory)
    (λ i. state_in c.begin.new.station (sym c.new.ensures i) (sym c.new-2.ensures i) b)
    (begun s c.args.eui c.args.key.now b c.in-Ok.station c.in-Ok.ensures.opened c.in-Ok.ensures.running c.in-Ok-open_book.ensures.read
    (state_in c.begin.new.station [] [] b)
    (subst (λ (k : State StationMemory). Begun s c.args.eui c.args.key.now b k (Ok tt) (state_in c.begin.new.station [] [] b))
    c.in-Ok-open_book.ensures.same (c.in-Ok-begin.ensures.carries b)))
