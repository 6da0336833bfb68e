use Rattle.std.proofs.Common.{◌<◌, List, length, arith, ap, sym, subst, rules}
use Rattle.store_tables.specs.SlotOrders.{IsOrder}
use Rattle.store_tables.specs.SlotTables.{IsFree, keys_of}
use Rattle.store_tables.proofs.SlotOrders.{more_lacks}
use Rattle.store_tables.proofs.slot_table.SlotTable.push.Goals as goal

pub insert-requires : goal.insert-requires
insert-requires g c =
    let layout = g.E.SlotEntry.layout in
    let items = c.self.inside.entries in
    let short : length items < layout.slots = omega (arith, c.requires.room, ap length c.self.view_is) in
    let free = subst (λ (t : List g.row.E.Denot). IsFree layout t (length t) (layout.key c.args.entry)) (sym c.self.view_is) c.requires.free in
    let so = more_lacks layout items c.args.entry c.as_slice.result.now c.push.new.self c.self.inside.order g.row.N c.len-place.result c.self.invariant
    short free
    c.as_slice.ensures c.push.ensures.items c.len-place.ensures in
    (search rules, so.1)

pub invariant_of-self : goal.invariant_of-self
invariant_of-self g c =
    let layout = g.E.SlotEntry.layout in
    let items = c.self.inside.entries in
    let short : length items < layout.slots = omega (arith, c.requires.room, ap length c.self.view_is) in
    let free = subst (λ (t : List g.row.E.Denot). IsFree layout t (length t) (layout.key c.args.entry)) (sym c.self.view_is) c.requires.free in
    let so = more_lacks layout items c.args.entry c.as_slice.result.now c.push.new.self c.self.inside.order g.row.N c.len-place.result c.self.invariant
    short free
    c.as_slice.ensures c.push.ensures.items c.len-place.ensures in
    record {
      sound = so.0;
      whole = c.self.invariant.whole;
      order = subst (λ (t : List g.row.E.Denot). IsOrder (keys_of layout t) c.insert.new.self) c.as_slice.ensures c.insert.ensures;
    }
