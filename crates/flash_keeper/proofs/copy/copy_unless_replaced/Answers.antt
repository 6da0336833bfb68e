use Rattle.std.proofs.Common.{◌∙◌, ◌≡◌, ◌-◌, ℕ, true, false, sym, ap, if◌then◌else◌}
use Rattle.std.specs.FinMap.{insert}
use Rattle.flash_keeper.specs.Records.{slot_at, octets_at}
use Rattle.flash_keeper.specs.Front.{front_records}
use Rattle.flash_keeper.specs.Log.{holds_later}
use Rattle.flash_keeper.proofs.Outcomes.{one_if_ok}
use Rattle.flash_keeper.proofs.copy.copy_unless_replaced.Goals as goal

pub returns-then-is_replaced-clause-records : goal.returns-then-is_replaced-clause-records
returns-then-is_replaced-clause-records g c =
    let words = (g.B.FlashBank.bank c.args.from.now).words in
    let new = (g.B.FlashBank.bank c.args.to.now).words in
    let r = front_records new c.args.next.count in
    let is : holds_later c.args.front words c.args.later (c.args.cells - c.args.later) (slot_at words c.args.at) ≡ true =
    ap (λ (s : ℕ). holds_later c.args.front words c.args.later (c.args.cells - c.args.later) s) (sym c.slot_of.ensures) ∙ sym c.is_replaced.ensures
    ∙ c.if-is_replaced.true in
    sym (λ i. if is i then r else insert r (slot_at words c.args.at) (octets_at words c.args.at c.args.words))

pub copy_record-requires-clause-apart : goal.copy_record-requires-clause-apart
copy_record-requires-clause-apart g c =
    let words = (g.B.FlashBank.bank c.args.from.now).words in
    c.requires.apart (ap (λ (s : ℕ). holds_later c.args.front words c.args.later (c.args.cells - c.args.later) s) (sym c.slot_of.ensures)
    ∙ sym c.is_replaced.ensures ∙ c.if-is_replaced.false)

pub returns-clause-records : goal.returns-clause-records
returns-clause-records g c =
    let words = (g.B.FlashBank.bank c.args.from.now).words in
    let new = (g.B.FlashBank.bank c.args.to.now).words in
    let r = front_records new c.args.next.count in
    let is : holds_later c.args.front words c.args.later (c.args.cells - c.args.later) (slot_at words c.args.at) ≡ false =
    ap (λ (s : ℕ). holds_later c.args.front words c.args.later (c.args.cells - c.args.later) s) (sym c.slot_of.ensures) ∙ sym c.is_replaced.ensures
    ∙ c.if-is_replaced.false in
    one_if_ok c.copy_record.result (λ f e. e ∙ sym (λ i. if is i then r else insert r (slot_at words c.args.at) (octets_at words c.args.at c.args.words)))
    c.copy_record.ensures.records
