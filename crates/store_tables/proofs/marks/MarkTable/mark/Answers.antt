use Rattle.std.proofs.Common.{◌≡◌, Some, sym, ap, ◌∙◌}
use Rattle.store_tables.specs.Marks.{Table, place_of, mark_of}
use Rattle.store_tables.proofs.MarkEntries.{mark_found}
use Rattle.store_tables.proofs.marks.MarkTable.mark.Goals as goal

pub returns : goal.returns
returns g c =
    let items = c.self.inside.table in
    let at : place_of g.row.FIRST g.row.SLOTS items c.args.address
    ≡ Some c.in_ok-place.place = ap (place_of g.row.FIRST g.row.SLOTS items) (sym c.key.ensures.value) ∙ sym c.in_ok-place.ensures.place in
    sym (mark_found g.row.FIRST g.row.SLOTS items c.args.address c.in_ok-place.place c.get.result at c.in_ok-place.ensures.within c.get.ensures)
    ∙ ap (λ (t : Table g.row.FIRST g.row.SLOTS). mark_of g.row.FIRST g.row.SLOTS t c.args.address) c.self.view_is
