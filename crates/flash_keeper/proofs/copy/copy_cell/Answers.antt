use Rattle.std.proofs.Common.{◌∙◌, ◌≡◌, ◌+◌, ◌-◌, true, false, sym, if◌then◌else◌}
use Rattle.std.specs.FinMap as map
use Rattle.std.specs.FinMap.{insert}
use Rattle.flash_keeper.specs.Records.{slot_at, octets_at}
use Rattle.flash_keeper.specs.Log.{holds_later, place}
use Rattle.flash_keeper.proofs.Outcomes.{one_if_ok}
use Rattle.flash_keeper.proofs.CopyLemmas.{kept-uncounted, kept-suc, cell_apart}
use Rattle.flash_keeper.proofs.copy.copy_cell.Goals as goal

pub returns-then-not-is_marked-clause-records : goal.returns-then-not-is_marked-clause-records
returns-then-not-is_marked-clause-records g c =
    let words = (g.B.FlashBank.bank c.args.from.now).words in
    c.requires.records ∙ sym (kept-uncounted c.args.front words c.args.cells c.args.cell (sym c.is_marked.ensures ∙ c.if-not-is_marked.true))

pub copy_unless_replaced-requires-clause-apart : goal.copy_unless_replaced-requires-clause-apart
copy_unless_replaced-requires-clause-apart g c =
    let words = (g.B.FlashBank.bank c.args.from.now).words in
    let at : c.place_of.result ≡ place c.args.front c.args.cell = c.place_of.ensures in
    let records = c.requires.records in
    λ later. (λ i. map.get (records i) (slot_at words (at i)))
    ∙ cell_apart c.args.front words c.args.cells c.args.cell c.requires.before (sym c.is_marked.ensures ∙ c.if-not-is_marked.false)

pub returns-clause-records : goal.returns-clause-records
returns-clause-records g c =
    let words = (g.B.FlashBank.bank c.args.from.now).words in
    let cell = c.args.cell in
    let cells = c.args.cells in
    let at : c.place_of.result ≡ place c.args.front cell = c.place_of.ensures in
    let records = c.requires.records in
    one_if_ok c.copy_unless_replaced.result (λ f e. e ∙ (λ i. if holds_later c.args.front words (cell + 1) (cells - (cell + 1)) (slot_at words (at i)) then
    records i else insert (records i) (slot_at words (at i)) (octets_at words (at i) 8))
    ∙ sym (kept-suc c.args.front words cells cell (sym c.is_marked.ensures ∙ c.if-not-is_marked.false))) c.copy_unless_replaced.ensures.records
