use Rattle.std.proofs.Common.{◌≡◌, Some, List, length, ℕ, ap, sym, ◌∙◌, arith}
use Rattle.std.specs.Prelude.{slice_index}
use Rattle.std.proofs.lemmas.List.{length-map}
use Rattle.store_tables.specs.SlotTables.{keys_of}
use Rattle.store_tables.proofs.SlotOrders.{place_is, place_none, unranked}
use Rattle.store_tables.proofs.slot_order.SlotOrder.find.Goals as goal

pub returns-then-rank-len : goal.returns-then-rank-len
returns-then-rank-len g c =
    let layout = g.E.SlotEntry.layout in
    let table = c.args.entries.now in
    let keys = keys_of layout table in
    let len = length-map table layout.key in
    let places : length c.self.inside.places ≡ length c.args.self.now = ap length c.self.view_is in
    sym (place_none layout table c.args.key
    (λ q lt. unranked keys c.args.self.now c.args.key c.rank-rank.result c.requires.order c.rank-rank.ensures
    (λ within. absurd (omega (arith, c.len.ensures))) q (omega arith)))

pub returns-then-key_of-key : goal.returns-then-key_of-key
returns-then-key_of-key g c =
    let layout = g.E.SlotEntry.layout in
    let table = c.args.entries.now in
    let keys = keys_of layout table in
    let len = length-map table layout.key in
    let place = ap (λ (ps : List ℕ). slice_index ps c.rank-rank.result) (c.as_slice.ensures ∙ c.self.view_is) in
    sym (place_none layout table c.args.key
    (λ q lt. unranked keys c.args.self.now c.args.key c.rank-rank.result c.requires.order c.rank-rank.ensures
    (λ within same. c.if-key_of-key.true (c.key_of.ensures ∙ ap (slice_index keys) place ∙ same)) q (omega arith)))

pub returns : goal.returns
returns g c =
    let layout = g.E.SlotEntry.layout in
    let table = c.args.entries.now in
    let keys = keys_of layout table in
    let len = length-map table layout.key in
    let place = ap (λ (ps : List ℕ). slice_index ps c.rank-rank.result) (c.as_slice.ensures ∙ c.self.view_is) in
    let places : length c.self.inside.places ≡ length c.args.self.now = ap length c.self.view_is in
    let inside = c.requires.order.rising.within c.rank-rank.result 0 (omega (arith, c.len.ensures)) in
    ap (λ (p : ℕ). Some p) place ∙ sym (place_is layout table c.args.key (slice_index c.args.self.now c.rank-rank.result) c.requires.table (omega arith)
    (ap (slice_index keys) (sym place) ∙ sym c.key_of.ensures ∙ c.if-key_of-key.false))
