use Rattle.std.proofs.Common.{◌∙◌, ◌+◌, ◌-◌, ◌<◌, sym, arith}
use Rattle.flash_keeper.proofs.Outcomes.{both_if_ok, one_if_ok, one_err}
use Rattle.flash_keeper.proofs.BankLemmas.{sure_zero, sure_before, torn_before, left_before, never_undecided}
use Rattle.flash_keeper.specs.Log.{place}
use Rattle.flash_keeper.proofs.WearLemmas.{no_counts, keeps_all, wider_counts}
use Rattle.flash_keeper.proofs.cells.settle_before.Goals as goal

pub returns-then-at-eq0-clause-sure : goal.returns-then-at-eq0-clause-sure
returns-then-at-eq0-clause-sure g c =
    λ same n choice left found. sure_zero c.args.front (g.B.FlashBank.bank c.args.bank.now) n c.args.at choice c.if-at-eq0.true left
    found

pub returns-clause-sure : goal.returns-clause-sure
returns-clause-sure g c =
    let more : 0 < c.args.at = omega (arith, c.if-at-eq0.false) in
    one_if_ok c.settle_last.result (λ ok settled is n choice left found.
    sure_before c.args.front (g.B.FlashBank.bank c.args.bank.now) (g.B.FlashBank.bank c.settle_last.new.bank) n c.args.at choice ok
    (c.settle_last.ensures.firm ∙ sym c.requires.firm) c.settle_last.ensures.size more left found is settled c.settle_last.ensures.certain)
    c.settle_last.ensures.settled

pub returns-clause-torn : goal.returns-clause-torn
returns-clause-torn g c =
    let more : 0 < c.args.at = omega (arith, c.if-at-eq0.false) in
    both_if_ok c.settle_last.result (λ ok torn unmarked is n choice left found.
    torn_before c.args.front (g.B.FlashBank.bank c.args.bank.now) (g.B.FlashBank.bank c.settle_last.new.bank) n c.args.at choice ok more left found is torn
    unmarked)
    c.settle_last.ensures.torn c.settle_last.ensures.unmarked

pub returns-clause-left : goal.returns-clause-left
returns-clause-left g c =
    let more : 0 < c.args.at = omega (arith, c.if-at-eq0.false) in
    one_err c.settle_last.result (λ keeps n choice left found.
    left_before c.args.front (g.B.FlashBank.bank c.args.bank.now) (g.B.FlashBank.bank c.settle_last.new.bank) n c.args.at choice
    (c.settle_last.ensures.firm ∙ sym c.requires.firm) c.settle_last.ensures.size more left found keeps c.settle_last.ensures.certain)
    c.settle_last.ensures.left

pub returns-clause-undecided : goal.returns-clause-undecided
returns-clause-undecided g c =
    let more : 0 < c.args.at = omega (arith, c.if-at-eq0.false) in
    one_if_ok c.settle_last.result (λ ok undecided is n choice left found decided.
    never_undecided c.args.front (g.B.FlashBank.bank c.args.bank.now) n c.args.at ok more found is undecided decided)
    c.settle_last.ensures.undecided

pub returns-then-at-eq0-clause-counts : goal.returns-then-at-eq0-clause-counts
returns-then-at-eq0-clause-counts g c = no_counts (g.B.FlashBank.bank c.args.bank.now) (place c.args.front (c.args.at - 1)) (place c.args.front c.args.at)

pub returns-then-at-eq0-clause-keeps : goal.returns-then-at-eq0-clause-keeps
returns-then-at-eq0-clause-keeps g c = keeps_all c.args.front (g.B.FlashBank.bank c.args.bank.now)

pub returns-clause-counts : goal.returns-clause-counts
returns-clause-counts g c =
    let k = c.args.at - 1 in
    wider_counts (g.B.FlashBank.bank c.args.bank.now) (g.B.FlashBank.bank c.settle_last.new.bank) (place c.args.front k) (place c.args.front k + 12)
    (place c.args.front k) (place c.args.front c.args.at)
    (omega arith) (omega (arith, c.if-at-eq0.false)) c.settle_last.ensures.counts
