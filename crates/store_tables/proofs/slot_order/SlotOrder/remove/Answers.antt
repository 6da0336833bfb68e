use Rattle.std.proofs.Common.{List, ℕ, sym, ◌∙◌, subst, rules}
use Rattle.std.proofs.lemmas.List.{get_or_default}
use Rattle.store_tables.specs.SlotOrders.{IsOrder}
use Rattle.store_tables.specs.SlotTables.{keys_of}
use Rattle.store_tables.proofs.SlotOrders.{removed, stands}
use Rattle.store_tables.proofs.slot_order.SlotOrder.remove.Goals as goal

pub remove-requires : goal.remove-requires
remove-requires g c =
    let at = stands g.E.SlotEntry.layout c.args.entries.now c.args.place c.index-entries-place.result c.requires.within c.index-entries-place.is c.key.result
    c.key.ensures
    c.self.inside.places c.args.self.now c.rank-rank.result c.self.view_is c.requires.order c.rank-rank.ensures in
    (search rules, at.0)

pub returns-clause-place : goal.returns-clause-place
returns-clause-place g c =
    let at = stands g.E.SlotEntry.layout c.args.entries.now c.args.place c.index-entries-place.result c.requires.within c.index-entries-place.is c.key.result
    c.key.ensures
    c.self.inside.places c.args.self.now c.rank-rank.result c.self.view_is c.requires.order c.rank-rank.ensures in
    c.remove.ensures.value ∙ get_or_default c.self.inside.places c.rank-rank.result c.remove.result c.args.place at.0 ∙ at.1

pub returns-clause-lacks : goal.returns-clause-lacks
returns-clause-lacks g c =
    let keys = keys_of g.E.SlotEntry.layout c.args.entries.now in
    let at = stands g.E.SlotEntry.layout c.args.entries.now c.args.place c.index-entries-place.result c.requires.within c.index-entries-place.is c.key.result
    c.key.ensures
    c.self.inside.places c.args.self.now c.rank-rank.result c.self.view_is c.requires.order c.rank-rank.ensures in
    rw c.remove.ensures.items
    (removed keys c.self.inside.places c.args.place c.rank-rank.result (subst (λ (ps : List ℕ). IsOrder keys ps) (sym c.self.view_is) c.requires.order)
    at.0 at.1)
