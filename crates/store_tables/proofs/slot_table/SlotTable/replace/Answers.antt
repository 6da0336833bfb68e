use Rattle.std.proofs.Common.{◌≡◌, ◌<◌, get_or, List, length, arith, ap, sym, subst, ◌∙◌, rules}
use Rattle.std.specs.Prelude.{slice_get}
use Rattle.store_tables.specs.SlotOrders.{IsOrder}
use Rattle.store_tables.specs.SlotTables.{IsFree, keys_of}
use Rattle.store_tables.proofs.SlotTables.{got_here}
use Rattle.store_tables.proofs.SlotOrders.{same_table, other_lacks}
use Rattle.store_tables.proofs.slot_table.SlotTable.replace.Goals as goal

pub invariant_of-self : goal.invariant_of-self
invariant_of-self g c =
    let layout = g.E.SlotEntry.layout in
    let items = c.self.inside.entries in
    let within : c.args.place < length items = omega (arith, c.requires.within, ap length c.self.view_is) in
    let free = subst (λ (t : List g.row.E.Denot). IsFree layout t c.args.place (layout.key c.args.entry)) (sym c.self.view_is) c.requires.free in
    let before = got_here items c.args.place c.get.result c.args.entry within
    (ap (λ (t : List g.row.E.Denot). slice_get t c.args.place) c.self.view_is ∙ c.get.ensures) in
    let same : layout.key c.args.entry
    ≡ layout.key (get_or items c.args.place c.args.entry) = sym c.key-2.ensures ∙ sym c.if-key.true ∙ c.key.ensures ∙ ap layout.key before in
    rw c.set.ensures (same_table layout items c.args.place c.args.entry c.self.inside.order g.row.N c.self.invariant within same free)

pub insert-requires : goal.insert-requires
insert-requires g c =
    let layout = g.E.SlotEntry.layout in
    let items = c.self.inside.entries in
    let within : c.args.place < length items = omega (arith, c.requires.within, ap length c.self.view_is) in
    let free = subst (λ (t : List g.row.E.Denot). IsFree layout t c.args.place (layout.key c.args.entry)) (sym c.self.view_is) c.requires.free in
    let so = other_lacks layout items c.args.place c.remove-taken.result c.args.entry c.as_slice.result.now c.as_slice-2.result.now
    c.set-2.new.self c.self.inside.order c.remove-taken.new.self g.row.N
    c.self.invariant within free c.as_slice.ensures c.remove-taken.ensures.lacks c.as_slice-2.ensures c.set-2.ensures
    c.remove-taken.ensures.place in
    (search rules, so.1)

pub invariant_of-self-2 : goal.invariant_of-self-2
invariant_of-self-2 g c =
    let layout = g.E.SlotEntry.layout in
    let items = c.self.inside.entries in
    let within : c.args.place < length items = omega (arith, c.requires.within, ap length c.self.view_is) in
    let free = subst (λ (t : List g.row.E.Denot). IsFree layout t c.args.place (layout.key c.args.entry)) (sym c.self.view_is) c.requires.free in
    let so = other_lacks layout items c.args.place c.remove-taken.result c.args.entry c.as_slice.result.now c.as_slice-2.result.now
    c.set-2.new.self c.self.inside.order c.remove-taken.new.self g.row.N
    c.self.invariant within free c.as_slice.ensures c.remove-taken.ensures.lacks c.as_slice-2.ensures c.set-2.ensures
    c.remove-taken.ensures.place in
    record {
      sound = so.0;
      whole = c.self.invariant.whole;
      order = subst (λ (t : List g.row.E.Denot). IsOrder (keys_of layout t) c.insert.new.self) c.as_slice-2.ensures c.insert.ensures;
    }
