use Rattle.std.proofs.Common.{◌≡◌, Some, None, false, length, sym, ap, ◌∙◌}
use Rattle.std.specs.Prelude.{◌==◌}
use Rattle.store_tables.specs.Marks.{Table, slots_of, place_of, room_for}
use Rattle.store_tables.proofs.MarkEntries.{room_low, room_above, room_free}
use Rattle.store_tables.proofs.marks.MarkTable.room.Goals as goal
use Rattle.store_tables.proofs.marks.MarkTable.room.Goals.{in_default-via-in-Some+else-number-get, in_default-via-in-None+else-is_full}

pub returns-in-Some : goal.returns-in-Some
returns-in-Some g c =
    let items = c.self.inside.table in
    let at : place_of g.row.FIRST g.row.SLOTS items c.args.address
    ≡ Some c.in-Some.place = ap (place_of g.row.FIRST g.row.SLOTS items) (sym c.key.ensures.value) ∙ sym c.in-Some.ensures.place in
    sym (room_low g.row.FIRST g.row.SLOTS c.args.low c.args.full items c.args.address c.args.number c.in-Some.place c.get.result at c.in-Some.ensures.within
    c.get.ensures c.if-number-get.true)
    ∙ ap (λ (t : Table g.row.FIRST g.row.SLOTS). room_for g.row.FIRST g.row.SLOTS c.args.low c.args.full t c.args.address c.args.number) c.self.view_is

pub returns-in_default : goal.returns-in_default
returns-in_default g c =
    let items = c.self.inside.table in
    let view = ap (λ (t : Table g.row.FIRST g.row.SLOTS). room_for g.row.FIRST g.row.SLOTS c.args.low c.args.full t c.args.address c.args.number)
    c.self.view_is in
    elim c.in_default.branch [
      | in_default-via-in-Some+else-number-get w ↦
          let at : place_of g.row.FIRST g.row.SLOTS items c.args.address
          ≡ Some w.in-Some.place = ap (place_of g.row.FIRST g.row.SLOTS items) (sym c.key.ensures.value) ∙ sym w.in-Some.ensures.place in
          sym (room_above g.row.FIRST g.row.SLOTS c.args.low c.args.full items c.args.address c.args.number w.in-Some.place w.get.result at
          w.in-Some.ensures.within w.get.ensures w.if-number-get.false) ∙ view
      | in_default-via-in-None+else-is_full w ↦
          let new : place_of g.row.FIRST g.row.SLOTS items c.args.address
          ≡ None = ap (place_of g.row.FIRST g.row.SLOTS items) (sym c.key.ensures.value) ∙ sym w.in-None.ensures.place in
          let free : (length items == slots_of g.row.FIRST g.row.SLOTS) ≡ false = cc (w.is_full.ensures, w.if-is_full.false) in
          sym (room_free g.row.FIRST g.row.SLOTS c.args.low c.args.full items c.args.address c.args.number new free) ∙ view
    ]
