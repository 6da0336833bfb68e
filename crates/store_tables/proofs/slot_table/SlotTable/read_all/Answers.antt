use Rattle.std.proofs.Common.{rules, true, false, ◌≡◌, ◌+◌, ◌-◌, Some, None, Err, ℕ, [], ◌∷◌, length, length-append, arith, sym, ap, ◌∙◌}
use Rattle.std.specs.Prelude.{is_some}
use Rattle.std.specs.FinMap.{get}
use Rattle.store_tables.specs.SlotTables.{place_of, opened_from, slot_of}
use Rattle.store_tables.proofs.SlotTables.{free_new}
use Rattle.store_tables.proofs.SlotOrders.{slot_fits}
use Rattle.store_tables.proofs.OpenedTables.{with_record-none, with_record-held, with_record-new, opened_from-empty, opened_from-damaged, opened_from-more}
use Rattle.store_tables.proofs.OpenedTables.{opened_from-lost, opened_from-none_left}
use Rattle.store_tables.proofs.slot_table.SlotTable.read_all.Goals as goal

pub returns-in_default-read : goal.returns-in_default-read
returns-in_default-read g c =
    let layout = g.E.SlotEntry.layout in
    let records = (g.K.Keeper.store c.args.keeper.now).records in
    let table = c.loop-place.self in
    let got : get records (slot_of layout c.loop-place.place)
    ≡ Some c.in-Some.octets = ap (get records) (sym c.slot-slot.ensures.value) ∙ sym c.in-Some.ensures in
    let unread : layout.read c.loop-place.place c.in-Some.octets
    ≡ None = ap (layout.read c.loop-place.place) (sym c.octets.ensures.value) ∙ sym c.in_default-read.ensures in
    let damaged = with_record-none layout c.loop-place.place table c.in-Some.octets unread in
    let opens = ap (λ (k : ℕ). Err (record { slot = k })) c.slot-slot.ensures.value
    ∙ sym (opened_from-damaged layout _ c.loop-place.place records table c.in-Some.octets (omega (arith, c.requires.slots)) got damaged)
    ∙ c.loop-place.invariant.rest in
    opens

pub returns-then-is_some : goal.returns-then-is_some
returns-then-is_some g c =
    let layout = g.E.SlotEntry.layout in
    let records = (g.K.Keeper.store c.args.keeper.now).records in
    let table = c.loop-place.self in
    let got : get records (slot_of layout c.loop-place.place)
    ≡ Some c.in-Some.octets = ap (get records) (sym c.slot-slot.ensures.value) ∙ sym c.in-Some.ensures in
    let entry : layout.read c.loop-place.place c.in-Some.octets
    ≡ Some c.in-Some-read.entry = ap (layout.read c.loop-place.place) (sym c.octets.ensures.value) ∙ sym c.in-Some-read.ensures in
    let held : is_some (place_of layout table (layout.key c.in-Some-read.entry))
    ≡ true = ap (λ (k : ℕ). is_some (place_of layout table k)) (sym c.key.ensures) ∙ ap is_some (sym c.place_of.ensures.place) ∙ sym c.if-is_some.ensures in
    let damaged = with_record-held layout c.loop-place.place table c.in-Some.octets c.in-Some-read.entry entry held in
    let opens = ap (λ (k : ℕ). Err (record { slot = k })) c.slot-slot.ensures.value
    ∙ sym (opened_from-damaged layout _ c.loop-place.place records table c.in-Some.octets (omega (arith, c.requires.slots)) got damaged)
    ∙ c.loop-place.invariant.rest in
    opens

pub loop-place-preserved : goal.loop-place-preserved
loop-place-preserved g c =
    let layout = g.E.SlotEntry.layout in
    let records = (g.K.Keeper.store c.args.keeper.now).records in
    let table = c.loop-place.self in
    let got : get records (slot_of layout c.loop-place.place)
    ≡ Some c.in-Some.octets = ap (get records) (sym c.slot-slot.ensures.value) ∙ sym c.in-Some.ensures in
    let entry : layout.read c.loop-place.place c.in-Some.octets
    ≡ Some c.in-Some-read.entry = ap (layout.read c.loop-place.place) (sym c.octets.ensures.value) ∙ sym c.in-Some-read.ensures in
    let new : is_some (place_of layout table (layout.key c.in-Some-read.entry))
    ≡ false = ap (λ (k : ℕ). is_some (place_of layout table k)) (sym c.key.ensures) ∙ ap is_some (sym c.place_of.ensures.place) ∙ sym c.if-is_some.ensures in
    let more = with_record-new layout c.loop-place.place table c.in-Some.octets c.in-Some-read.entry entry new in
    record {
      rest = ap (opened_from layout (layout.slots - (c.loop-place.place + 1)) (c.loop-place.place + 1) records) c.push.ensures
          ∙ sym (opened_from-more layout _ (layout.slots - (c.loop-place.place + 1)) c.loop-place.place records table _ c.in-Some.octets
          (omega (arith, c.requires.slots)) got more)
          ∙ c.loop-place.invariant.rest;
      count = omega (arith, ap length c.push.ensures, length-append table (c.in-Some-read.entry ∷ []));
    }

pub returns-after-loop-place : goal.returns-after-loop-place
returns-after-loop-place g c =
    let layout = g.E.SlotEntry.layout in
    let records = (g.K.Keeper.store c.args.keeper.now).records in
    let table = c.loop-place.self in
    let none_left : layout.slots - c.loop-place.place ≡ 0 = omega (arith, c.requires.slots) in
    sym (opened_from-none_left layout c.loop-place.place records table) ∙ (rw none_left at c.loop-place.invariant.rest)

pub push-requires : goal.push-requires
push-requires g c =
    let layout = g.E.SlotEntry.layout in
    let table = c.loop-place.self in
    let new : is_some (place_of layout table (layout.key c.in-Some-read.entry))
    ≡ false = ap (λ (k : ℕ). is_some (place_of layout table k)) (sym c.key.ensures) ∙ ap is_some (sym c.place_of.ensures.place) ∙ sym c.if-is_some.ensures in
    let fits = slot_fits c.slot-slot.result c.slot-slot.ensures.valid in
    (search rules, (omega (arith, c.requires.slots), (omega (arith, c.slot-slot.ensures.value), free_new layout table _ _ new)))

pub returns-in_default : goal.returns-in_default
returns-in_default g c =
    let layout = g.E.SlotEntry.layout in
    let records = (g.K.Keeper.store c.args.keeper.now).records in
    let table = c.loop-place.self in
    let none : get records (slot_of layout c.loop-place.place) ≡ None = ap (get records) (sym c.slot-slot.ensures.value) ∙ sym c.in_default.ensures in
    let lost = sym c.if-is_empty_behind.ensures in
    ap (λ (k : ℕ). Err (record { slot = k })) c.slot-slot.ensures.value
    ∙ sym (opened_from-lost layout (layout.slots - c.loop-place.place) (layout.slots - (c.loop-place.place + 1)) c.loop-place.place records table
    (omega (arith, c.requires.slots, c.loop-place-test.true)) none lost)
    ∙ c.loop-place.invariant.rest

pub returns-then-is_empty_behind : goal.returns-then-is_empty_behind
returns-then-is_empty_behind g c =
    let layout = g.E.SlotEntry.layout in
    let records = (g.K.Keeper.store c.args.keeper.now).records in
    let table = c.loop-place.self in
    let none : get records (slot_of layout c.loop-place.place) ≡ None = ap (get records) (sym c.slot-slot.ensures.value) ∙ sym c.in_default.ensures in
    let last = sym c.if-is_empty_behind.ensures in
    sym (opened_from-empty layout (layout.slots - c.loop-place.place) (layout.slots - (c.loop-place.place + 1)) c.loop-place.place records table
    (omega (arith, c.requires.slots, c.loop-place-test.true)) none last)
    ∙ c.loop-place.invariant.rest
