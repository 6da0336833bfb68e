use Rattle.std.proofs.Common.{rules, ◌≡◌, ◌≤◌, [], ◌∷◌, ◌++◌, length, set, ℕ, Some, None, Option, true, refl, arith, sym, ap, subst, ◌∙◌}
use Rattle.std.specs.Prelude.{is_ok, OnOk}
use Rattle.plc_base.specs.Keeper.{Stores, Write, IsOldOrNew}
use Rattle.store_tables.specs.SlotTables.{IsFree, entry_write}
use Rattle.store_tables.specs.declared.marks.Mark.{Mark}
use Rattle.store_tables.specs.Marks.{Table, layout, place_of, has_room, kept_after, keep_write, AgreesWith}
use Rattle.store_tables.proofs.MarkEntries.{kept_low, write_low, kept_high, write_high, kept_new, write_new, ahead_covered, set_covered, push_covered, room_new}
use Rattle.store_tables.proofs.marks.MarkTable.keep.Goals as goal

pub push_stored-requires : goal.push_stored-requires
push_stored-requires g c =
    let items = c.self.inside.table in
    let new : place_of g.row.FIRST g.row.SLOTS items c.args.address
    ≡ None = ap (place_of g.row.FIRST g.row.SLOTS items) (sym c.key.ensures.value) ∙ sym c.in-None.ensures.place in
    let room = room_new g.row.FIRST g.row.SLOTS items c.args.address c.args.number new
    (subst (λ (t : Table g.row.FIRST g.row.SLOTS). has_room g.row.FIRST g.row.SLOTS t c.args.address c.args.number ≡ true) (sym c.self.view_is)
    c.requires.room) in
    let key : c.key.result ≡ c.ahead_of-in-None.result.address = c.key.ensures.value
    ∙ sym (ap (λ (m : Mark g.row.FIRST g.row.SLOTS). m.address) c.ahead_of-in-None.ensures) in (
      omega arith,
      (
        room,
        (
          subst (λ (k : ℕ). IsFree (layout g.row.FIRST g.row.SLOTS) items (length items) k) key c.in-None.ensures.free,
          (
            refl,
            subst (λ (t : Table g.row.FIRST g.row.SLOTS). AgreesWith g.row.FIRST g.row.SLOTS t (g.K.Keeper.store c.args.keeper.now).records)
                (sym c.self.view_is) c.requires.kept,
          ),
        ),
      ),
    )

pub returns-then-number-entry-clause-table : goal.returns-then-number-entry-clause-table
returns-then-number-entry-clause-table g c =
    let items = c.self.inside.table in
    let at : place_of g.row.FIRST g.row.SLOTS items c.args.address
    ≡ Some c.in-Some.place = ap (place_of g.row.FIRST g.row.SLOTS items) (sym c.key.ensures.value) ∙ sym c.in-Some.ensures.place in
    c.set_unstored.ensures.table
    ∙ sym (kept_low g.row.FIRST g.row.SLOTS items c.args.address c.args.number c.in-Some.place c.get-entry.result at c.in-Some.ensures.within
    c.get-entry.ensures c.if-number-entry.true)
    ∙ ap (λ (t : Table g.row.FIRST g.row.SLOTS). kept_after g.row.FIRST g.row.SLOTS t c.args.address c.args.number) c.self.view_is

pub returns-then-number-entry-clause-store : goal.returns-then-number-entry-clause-store
returns-then-number-entry-clause-store g c =
    let items = c.self.inside.table in
    let at : place_of g.row.FIRST g.row.SLOTS items c.args.address
    ≡ Some c.in-Some.place = ap (place_of g.row.FIRST g.row.SLOTS items) (sym c.key.ensures.value) ∙ sym c.in-Some.ensures.place in
    let none = sym (ap (λ (t : Table g.row.FIRST g.row.SLOTS). keep_write g.row.FIRST g.row.SLOTS t c.args.address c.args.number) c.self.view_is)
    ∙ write_low g.row.FIRST g.row.SLOTS items c.args.address c.args.number c.in-Some.place c.get-entry.result at c.in-Some.ensures.within c.get-entry.ensures
    c.if-number-entry.true in
    let old = g.K.Keeper.store c.args.keeper.now in
    subst (λ (w : Option Write). Stores old w true old) (sym none) (refl, refl)

pub returns-else-number-entry-clause-table : goal.returns-else-number-entry-clause-table
returns-else-number-entry-clause-table g c =
    let items = c.self.inside.table in
    let at : place_of g.row.FIRST g.row.SLOTS items c.args.address
    ≡ Some c.in-Some.place = ap (place_of g.row.FIRST g.row.SLOTS items) (sym c.key.ensures.value) ∙ sym c.in-Some.ensures.place in
    let after = sym (ap (λ (t : Table g.row.FIRST g.row.SLOTS). kept_after g.row.FIRST g.row.SLOTS t c.args.address c.args.number) c.self.view_is)
    ∙ kept_high g.row.FIRST g.row.SLOTS items c.args.address c.args.number c.in-Some.place c.get-entry.result at c.in-Some.ensures.within c.get-entry.ensures
    c.if-number-entry.false in
    rw (after, ← c.ahead_of.ensures) c.set_stored.ensures.table

pub returns-else-number-entry-clause-store : goal.returns-else-number-entry-clause-store
returns-else-number-entry-clause-store g c =
    let items = c.self.inside.table in
    let at : place_of g.row.FIRST g.row.SLOTS items c.args.address
    ≡ Some c.in-Some.place = ap (place_of g.row.FIRST g.row.SLOTS items) (sym c.key.ensures.value) ∙ sym c.in-Some.ensures.place in
    let writes = sym (ap (λ (t : Table g.row.FIRST g.row.SLOTS). keep_write g.row.FIRST g.row.SLOTS t c.args.address c.args.number) c.self.view_is)
    ∙ write_high g.row.FIRST g.row.SLOTS items c.args.address c.args.number c.in-Some.place c.get-entry.result at c.in-Some.ensures.within c.get-entry.ensures
    c.if-number-entry.false
    ∙ ap (λ (m : Mark g.row.FIRST g.row.SLOTS). Some (entry_write (layout g.row.FIRST g.row.SLOTS) c.in-Some.place m)) (sym c.ahead_of.ensures) in
    let old = g.K.Keeper.store c.args.keeper.now in
    let new = g.K.Keeper.store c.set_stored.new.keeper in
    subst (λ (w : Option Write). Stores old w (is_ok c.set_stored.result) new) (sym writes) c.set_stored.ensures.store

pub invariant_of-self-else-number-entry : goal.invariant_of-self-else-number-entry
invariant_of-self-else-number-entry g c =
    let ahead = subst (λ (m : Mark g.row.FIRST g.row.SLOTS). m.mark ≤ m.stored) (sym c.ahead_of.ensures)
    (ahead_covered g.row.FIRST g.row.SLOTS c.args.address c.args.number (omega arith)) in
    set_covered g.row.FIRST g.row.SLOTS c.set_stored.result c.self.inside.table c.set_stored.new.self c.in-Some.place c.ahead_of.result c.self.invariant ahead
    c.set_stored.ensures.table c.set_stored.ensures.same

pub returns-then-number-entry-clause-kept : goal.returns-then-number-entry-clause-kept
returns-then-number-entry-clause-kept g c =
    let records = (g.K.Keeper.store c.args.keeper.now).records in
    c.set_unstored.ensures.kept records
    (subst (λ (t : Table g.row.FIRST g.row.SLOTS). AgreesWith g.row.FIRST g.row.SLOTS t records) (sym c.self.view_is) c.requires.kept)

pub returns-else-number-entry-clause-either : goal.returns-else-number-entry-clause-either
returns-else-number-entry-clause-either g c =
    let items = c.self.inside.table in
    let records = (g.K.Keeper.store c.set_stored.new.keeper).records in
    let at : place_of g.row.FIRST g.row.SLOTS items c.args.address
    ≡ Some c.in-Some.place = ap (place_of g.row.FIRST g.row.SLOTS items) (sym c.key.ensures.value) ∙ sym c.in-Some.ensures.place in
    let after = ap (λ (m : Mark g.row.FIRST g.row.SLOTS). set items c.in-Some.place m) c.ahead_of.ensures
    ∙ sym (kept_high g.row.FIRST g.row.SLOTS items c.args.address c.args.number c.in-Some.place c.get-entry.result at c.in-Some.ensures.within
    c.get-entry.ensures c.if-number-entry.false)
    ∙ ap (λ (t : Table g.row.FIRST g.row.SLOTS). kept_after g.row.FIRST g.row.SLOTS t c.args.address c.args.number) c.self.view_is in
    subst (λ (t : Table g.row.FIRST g.row.SLOTS). IsOldOrNew (AgreesWith g.row.FIRST g.row.SLOTS) c.args.self.now t records) after
    (subst (λ (t : Table g.row.FIRST g.row.SLOTS). IsOldOrNew (AgreesWith g.row.FIRST g.row.SLOTS) t (set items c.in-Some.place c.ahead_of.result) records)
    c.self.view_is c.set_stored.ensures.either)

pub returns-in-None-clause-table : goal.returns-in-None-clause-table
returns-in-None-clause-table g c =
    let items = c.self.inside.table in
    let new : place_of g.row.FIRST g.row.SLOTS items c.args.address
    ≡ None = ap (place_of g.row.FIRST g.row.SLOTS items) (sym c.key.ensures.value) ∙ sym c.in-None.ensures.place in
    let after = ap (λ (m : Mark g.row.FIRST g.row.SLOTS). items ++ m ∷ []) c.ahead_of-in-None.ensures
    ∙ sym (kept_new g.row.FIRST g.row.SLOTS items c.args.address c.args.number new)
    ∙ ap (λ (t : Table g.row.FIRST g.row.SLOTS). kept_after g.row.FIRST g.row.SLOTS t c.args.address c.args.number) c.self.view_is in
    subst (λ (t : Table g.row.FIRST g.row.SLOTS). OnOk c.push_stored.result (c.push_stored.new.self ≡ t)) after c.push_stored.ensures.table

pub returns-in-None-clause-store : goal.returns-in-None-clause-store
returns-in-None-clause-store g c =
    let items = c.self.inside.table in
    let new : place_of g.row.FIRST g.row.SLOTS items c.args.address
    ≡ None = ap (place_of g.row.FIRST g.row.SLOTS items) (sym c.key.ensures.value) ∙ sym c.in-None.ensures.place in
    let writes = ap (λ (m : Mark g.row.FIRST g.row.SLOTS). Some (entry_write (layout g.row.FIRST g.row.SLOTS) (length items) m)) c.ahead_of-in-None.ensures
    ∙ sym (write_new g.row.FIRST g.row.SLOTS items c.args.address c.args.number new)
    ∙ ap (λ (t : Table g.row.FIRST g.row.SLOTS). keep_write g.row.FIRST g.row.SLOTS t c.args.address c.args.number) c.self.view_is in
    subst (λ (w : Option Write). Stores (g.K.Keeper.store c.args.keeper.now) w (is_ok c.push_stored.result) (g.K.Keeper.store c.push_stored.new.keeper)) writes
    c.push_stored.ensures.store

pub returns-in-None-clause-either : goal.returns-in-None-clause-either
returns-in-None-clause-either g c =
    let items = c.self.inside.table in
    let records = (g.K.Keeper.store c.push_stored.new.keeper).records in
    let new : place_of g.row.FIRST g.row.SLOTS items c.args.address
    ≡ None = ap (place_of g.row.FIRST g.row.SLOTS items) (sym c.key.ensures.value) ∙ sym c.in-None.ensures.place in
    let after = ap (λ (m : Mark g.row.FIRST g.row.SLOTS). items ++ m ∷ []) c.ahead_of-in-None.ensures
    ∙ sym (kept_new g.row.FIRST g.row.SLOTS items c.args.address c.args.number new)
    ∙ ap (λ (t : Table g.row.FIRST g.row.SLOTS). kept_after g.row.FIRST g.row.SLOTS t c.args.address c.args.number) c.self.view_is in
    subst (λ (t : Table g.row.FIRST g.row.SLOTS). IsOldOrNew (AgreesWith g.row.FIRST g.row.SLOTS) c.args.self.now t records) after
    (subst (λ (t : Table g.row.FIRST g.row.SLOTS). IsOldOrNew (AgreesWith g.row.FIRST g.row.SLOTS) t (items ++ c.ahead_of-in-None.result ∷ []) records)
    c.self.view_is c.push_stored.ensures.either)

pub set_stored-requires : goal.set_stored-requires
set_stored-requires g c =
    let items = c.self.inside.table in
    let key : c.key.result ≡ c.ahead_of.result.address =
    c.key.ensures.value ∙ sym (ap (λ (m : Mark g.row.FIRST g.row.SLOTS). m.address) c.ahead_of.ensures) in (
      search rules,
      (
        c.in-Some.ensures.within,
        (
          subst (λ (k : ℕ). IsFree (layout g.row.FIRST g.row.SLOTS) items c.in-Some.place k) key c.in-Some.ensures.free,
          (
            refl,
            subst (λ (t : Table g.row.FIRST g.row.SLOTS). AgreesWith g.row.FIRST g.row.SLOTS t (g.K.Keeper.store c.args.keeper.now).records)
                (sym c.self.view_is) c.requires.kept,
          ),
        ),
      ),
    )

pub invariant_of-self-in-None : goal.invariant_of-self-in-None
invariant_of-self-in-None g c =
    let ahead = subst (λ (m : Mark g.row.FIRST g.row.SLOTS). m.mark ≤ m.stored) (sym c.ahead_of-in-None.ensures)
    (ahead_covered g.row.FIRST g.row.SLOTS c.args.address c.args.number (omega arith)) in
    push_covered g.row.FIRST g.row.SLOTS c.push_stored.result c.self.inside.table c.push_stored.new.self c.ahead_of-in-None.result c.self.invariant ahead
    c.push_stored.ensures.table c.push_stored.ensures.same
