use Rattle.std.proofs.Common.{◌∙◌, inr, refl, sym, arith, true}
use Rattle.flash_keeper.specs.Front.{no_front}
use Rattle.flash_keeper.proofs.FrontLemmas.{no_records}
use Rattle.flash_keeper.proofs.BankLemmas.{headed-same, numbered_of_head, marked_log}
use Rattle.flash_keeper.specs.Wear.{noted}
use Rattle.flash_keeper.proofs.WearLemmas.{copy_is_live, spare_of_blank}
use Rattle.flash_keeper.proofs.pair.Pair.format.Goals as goal

pub returns-clause-ready : goal.returns-clause-ready
returns-clause-ready g c =
    let first = g.B.FlashBank.bank c.begin.new.bank in
    let numbered = g.B.FlashBank.bank c.write_number.new.bank in
    let live = g.B.FlashBank.bank c.confirm.new.bank in
    let w = c.write_number.ensures in
    let head = headed-same first numbered _ (w.firm ∙ sym c.in_ok-begin.ensures.head.firm) (w.heads 0 (omega arith)) (w.heads 1 (omega arith))
    c.in_ok-begin.ensures.head in
    let all = marked_log no_front numbered live _ 0 true head c.in_ok-write_number.ensures.settled c.in_ok-confirm.ensures.programs in
    record {
      sizes = c.in_ok-confirm.ensures.programs.size ∙ w.size ∙ c.begin.ensures.size ∙ c.requires.sizes ∙ sym c.wipe.ensures.size;
      number = numbered_of_head live _ (omega arith) all.0;
      mark = c.in_ok-confirm.ensures.programs.done refl;
      log = all.1;
      beside = inr (c.in_ok-wipe.ensures.blank.firm, c.in_ok-wipe.ensures.blank.blank 2);
    }

pub returns-clause-records : goal.returns-clause-records
returns-clause-records g c =
    let first = g.B.FlashBank.bank c.begin.new.bank in
    let numbered = g.B.FlashBank.bank c.write_number.new.bank in
    let live = g.B.FlashBank.bank c.confirm.new.bank in
    let w = c.write_number.ensures in
    let head = headed-same first numbered _ (w.firm ∙ sym c.in_ok-begin.ensures.head.firm) (w.heads 0 (omega arith)) (w.heads 1 (omega arith))
    c.in_ok-begin.ensures.head in
    (marked_log no_front numbered live _ 0 true head c.in_ok-write_number.ensures.settled c.in_ok-confirm.ensures.programs).2
    ∙ w.records ∙ no_records first.words

pub returns-clause-worn : goal.returns-clause-worn
returns-clause-worn g c = record {
  live_is = copy_is_live no_front 0 (noted (g.B.FlashBank.bank c.wipe.new.bank)) (g.B.FlashBank.bank c.write_number.new.bank)
      (g.B.FlashBank.bank c.confirm.new.bank) true c.in_ok-write_number.ensures.fresh c.in_ok-confirm.ensures.programs;
  spare_is = spare_of_blank 0 (g.B.FlashBank.bank c.wipe.new.bank) c.in_ok-wipe.ensures.blank.fresh;
}
