use Rattle.std.proofs.Common.{subst, List, ap, ◌∙◌}
use Rattle.store_tables.specs.SlotTables.{IsTable, place_of}
use Rattle.store_tables.proofs.SlotTables.{place_free}
use Rattle.store_tables.proofs.slot_table.SlotTable.place_of.Goals as goal

pub returns-clause-free : goal.returns-clause-free
returns-clause-free g c =
    let layout = g.E.SlotEntry.layout in
    place_free layout c.args.self.now c.args.key _ (subst (λ (t : List g.row.E.Denot). IsTable layout t) c.self.view_is c.self.invariant.sound)
    (c.find.ensures ∙ ap (λ (t : List g.row.E.Denot). place_of layout t c.args.key) (c.as_slice.ensures ∙ c.self.view_is))
