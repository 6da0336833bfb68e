use Rattle.std.proofs.Common.{◌≡◌, ◌<◌, length, List, arith, ap, sym, subst}
use Rattle.std.specs.Prelude.{IfSome, slice_get}
use Rattle.store_tables.specs.SlotTables.{IsStored}
use Rattle.store_tables.proofs.SlotTables.{free_same_rest, stored_rest}
use Rattle.store_tables.proofs.SlotOrders.{same_table, same_rest_key}
use Rattle.store_tables.proofs.slot_table.SlotTable.set_unstored.Goals as goal

pub invariant_of-self : goal.invariant_of-self
invariant_of-self g c =
    let layout = g.E.SlotEntry.layout in
    let items = c.self.inside.entries in
    let within : c.args.place < length items = omega (arith, ap length c.self.view_is) in
    let rests = subst (λ (t : List g.row.E.Denot). IfSome (slice_get t c.args.place) (λ before. layout.rest c.args.entry ≡ layout.rest before))
    (sym c.self.view_is) c.requires.same in
    rw c.set.ensures
    (same_table layout items c.args.place c.args.entry c.self.inside.order g.row.N c.self.invariant within
    (same_rest_key layout items c.args.place c.args.entry g.met.E.SlotEntry.keeps_key within rests)
    (free_same_rest layout items c.args.place c.args.entry g.met.E.SlotEntry.keeps_key c.self.invariant.sound within rests))

pub returns-clause-kept : goal.returns-clause-kept
returns-clause-kept g c records kept =
    let layout = g.E.SlotEntry.layout in
    let items = c.self.inside.entries in
    let within : c.args.place < length items = omega (arith, ap length c.self.view_is) in
    rw c.set.ensures
    (stored_rest layout items records c.args.place c.args.entry within
    (subst (λ (t : List g.row.E.Denot). IfSome (slice_get t c.args.place) (λ before. layout.rest c.args.entry ≡ layout.rest before)) (sym c.self.view_is)
    c.requires.same)
    (subst (λ (t : List g.row.E.Denot). IsStored layout t records) (sym c.self.view_is) kept))
