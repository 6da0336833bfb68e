use Rattle.std.proofs.Common.{List, ℕ, sym, subst, arith}
use Rattle.std.specs.Prelude.{slice_index}
use Rattle.std.proofs.lemmas.List.{length-map}
use Rattle.store_tables.specs.SlotOrders.{LacksOne, IsRank}
use Rattle.store_tables.specs.SlotTables.{keys_of}
use Rattle.store_tables.proofs.SlotOrders.{inserted, differ}
use Rattle.store_tables.proofs.slot_order.SlotOrder.insert.Goals as goal

pub returns : goal.returns
returns g c =
    let layout = g.E.SlotEntry.layout in
    let table = c.args.entries.now in
    let keys = keys_of layout table in
    let len = length-map table layout.key in
    rw c.insert.ensures.items
    (inserted keys c.self.inside.places c.args.place c.rank-rank.result
    (subst (λ (ps : List ℕ). LacksOne keys ps c.args.place) (sym c.self.view_is) c.requires.lacks) (differ layout table c.requires.table)
    (omega (arith, c.requires.within))
    (subst (λ (ps : List ℕ). IsRank keys ps (slice_index keys c.args.place) c.rank-rank.result) (sym c.self.view_is)
    (subst (λ (k : ℕ). IsRank keys c.args.self.now k c.rank-rank.result) c.key_of.ensures c.rank-rank.ensures)))
