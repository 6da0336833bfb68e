use Rattle.std.proofs.Common.{◌≡◌, ◌+◌, ◌-◌, ℕ, true, false, sym, ap, ◌∙◌, arith}
use Rattle.std.specs.Prelude.{is_some}
use Rattle.std.specs.FinMap.{get}
use Rattle.store_tables.specs.SlotTables.{slot_of}
use Rattle.store_tables.proofs.OpenedTables.{is_empty_from-some, is_empty_from-next, is_empty_from-none_left}
use Rattle.store_tables.proofs.slot_table.SlotTable.is_empty_behind.Goals as goal

pub returns-then-is_some : goal.returns-then-is_some
returns-then-is_some g c =
    let layout = g.E.SlotEntry.layout in
    let records = (g.K.Keeper.store c.args.keeper.now).records in
    let there : is_some (get records (slot_of layout c.loop-later.later))
    ≡ true = ap (λ (k : ℕ). is_some (get records k)) (sym c.slot.ensures.value) ∙ ap is_some (sym c.get.ensures) ∙ sym c.if-is_some.ensures in
    sym (is_empty_from-some layout (layout.slots - c.loop-later.later) c.loop-later.later records
    (omega (arith, c.requires.slots, c.loop-later-test.true)) there)
    ∙ c.loop-later.invariant

pub loop-later-preserved : goal.loop-later-preserved
loop-later-preserved g c =
    let layout = g.E.SlotEntry.layout in
    let records = (g.K.Keeper.store c.args.keeper.now).records in
    let none : is_some (get records (slot_of layout c.loop-later.later))
    ≡ false = ap (λ (k : ℕ). is_some (get records k)) (sym c.slot.ensures.value) ∙ ap is_some (sym c.get.ensures) ∙ sym c.if-is_some.ensures in
    sym (is_empty_from-next layout (layout.slots - c.loop-later.later) (layout.slots - (c.loop-later.later + 1)) c.loop-later.later records
    (omega (arith, c.requires.slots, c.loop-later-test.true)) none)
    ∙ c.loop-later.invariant

pub returns : goal.returns
returns g c =
    let layout = g.E.SlotEntry.layout in
    let records = (g.K.Keeper.store c.args.keeper.now).records in
    let none_left : layout.slots - c.loop-later.later ≡ 0 = omega (arith, c.requires.slots, c.loop-later-test.false) in
    sym (is_empty_from-none_left layout c.loop-later.later records) ∙ (rw none_left at c.loop-later.invariant)
