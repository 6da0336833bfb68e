use Rattle.std.proofs.Common.{◌∙◌, is_ok, true, false, refl, arith, ◌+◌, Bool, inl, subst}
use Rattle.flash_keeper.proofs.BankLemmas.{confirmed_left, retired_left, noted_left, still_dead}
use Rattle.flash_keeper.specs.Flash.{Programs}
use Rattle.flash_keeper.specs.Front.{front_in}
use Rattle.flash_keeper.proofs.FrontLemmas.{front_in-same}
use Rattle.flash_keeper.specs.Wear.{one_if}
use Rattle.flash_keeper.proofs.Outcomes.{on_err, on_ok_of}
use Rattle.flash_keeper.proofs.OpeningLemmas.{true_is_false}
use Rattle.flash_keeper.proofs.WearLemmas.{worn_at_most, both_ways_more, parted, zero_keeps, keeps_all, then_keeps, program_counts, no_counts, then_counts}
use Rattle.flash_keeper.proofs.pair.Pair.part.Goals as goal

pub returns-in_err-confirm-clause-left : goal.returns-in_err-confirm-clause-left
returns-in_err-confirm-clause-left g c = λ n choice left.
    confirmed_left c.args.self.now.front (g.B.FlashBank.bank c.args.self.now.live) (g.B.FlashBank.bank c.confirm.new.bank) _ n choice false
    c.in_err-confirm.ensures.programs left

pub returns-in_err-retire-clause-left : goal.returns-in_err-retire-clause-left
returns-in_err-retire-clause-left g c = λ n choice left.
    retired_left c.args.self.now.front _ (g.B.FlashBank.bank c.args.self.now.spare) (g.B.FlashBank.bank c.retire.new.bank) n choice false
    c.in_err-retire.ensures.programs
    (confirmed_left c.args.self.now.front (g.B.FlashBank.bank c.args.self.now.live) (g.B.FlashBank.bank c.confirm.new.bank) _ n choice true
    c.in_ok-confirm.ensures.programs left)

pub returns-clause-left : goal.returns-clause-left
returns-clause-left g c = λ n choice left.
    noted_left c.args.self.now.front _ (g.B.FlashBank.bank c.retire.new.bank) (g.B.FlashBank.bank c.note.new.bank) n choice (is_ok c.note.result)
    c.note.ensures.programs
    (c.in_ok-retire.ensures.programs.done refl) (c.in_ok-confirm.ensures.programs.done refl)
    (retired_left c.args.self.now.front _ (g.B.FlashBank.bank c.args.self.now.spare) (g.B.FlashBank.bank c.retire.new.bank) n choice true
    c.in_ok-retire.ensures.programs
    (confirmed_left c.args.self.now.front (g.B.FlashBank.bank c.args.self.now.live) (g.B.FlashBank.bank c.confirm.new.bank) _ n choice true
    c.in_ok-confirm.ensures.programs left))

pub returns-in_err-confirm-clause-cells : goal.returns-in_err-confirm-clause-cells
returns-in_err-confirm-clause-cells g c = λ i three. c.in_err-confirm.ensures.programs.others i (λ e. omega (arith, three, e))

pub returns-in_err-retire-clause-cells : goal.returns-in_err-retire-clause-cells
returns-in_err-retire-clause-cells g c = λ i three. c.in_ok-confirm.ensures.programs.others i (λ e. omega (arith, three, e))

pub returns-clause-cells : goal.returns-clause-cells
returns-clause-cells g c = λ i three. c.in_ok-confirm.ensures.programs.others i (λ e. omega (arith, three, e))

pub returns-in_err-retire-clause-others : goal.returns-in_err-retire-clause-others
returns-in_err-retire-clause-others g c = λ i two. c.in_err-retire.ensures.programs.others i (λ e. omega (arith, two, e))

pub returns-clause-others : goal.returns-clause-others
returns-clause-others g c = λ i two.
    c.note.ensures.programs.others i (λ e. omega (arith, two, e)) ∙ c.in_ok-retire.ensures.programs.others i (λ e. omega (arith, two, e))

pub returns-then-is_noted-clause-worn : goal.returns-then-is_noted-clause-worn
returns-then-is_noted-clause-worn g c =
    λ f is. worn_at_most c.args.self.now.front f (f + one_if (g.B.FlashBank.bank c.args.self.now.spare).torn) (g.B.FlashBank.bank c.args.self.now.live)
    (g.B.FlashBank.bank c.args.self.now.spare) (omega arith) is

pub returns-in_err-confirm-clause-cut : goal.returns-in_err-confirm-clause-cut
returns-in_err-confirm-clause-cut g c =
    let a = g.B.FlashBank.bank c.args.self.now.live in
    let b = g.B.FlashBank.bank c.confirm.new.bank in
    let spare = g.B.FlashBank.bank c.args.self.now.spare in
    on_err c.from_residual.result (λ f is. both_ways_more c.args.self.now.front f a b spare spare
    (zero_keeps c.args.self.now.front a b 2 false c.in_err-confirm.ensures.programs) (keeps_all (front_in spare) spare) refl
    (program_counts a b 2 0 2 3 false (omega arith) (omega arith) c.in_err-confirm.ensures.programs).once (no_counts spare 0 0).once (λ dead. dead) is)

pub returns-in_err-retire-clause-cut : goal.returns-in_err-retire-clause-cut
returns-in_err-retire-clause-cut g c =
    let a = g.B.FlashBank.bank c.args.self.now.live in
    let b = g.B.FlashBank.bank c.confirm.new.bank in
    let d = g.B.FlashBank.bank c.args.self.now.spare in
    let e = g.B.FlashBank.bank c.retire.new.bank in
    on_err c.from_residual-in_err-retire.result
    (λ f is. both_ways_more c.args.self.now.front f a b d e (zero_keeps c.args.self.now.front a b 2 true c.in_ok-confirm.ensures.programs)
    (zero_keeps (front_in d) d e 0 false c.in_err-retire.ensures.programs)
    (front_in-same d e (λ i three. c.in_err-retire.ensures.programs.others i (λ x. omega (arith, x, three))))
    (program_counts a b 2 0 2 3 true (omega arith) (omega arith) c.in_ok-confirm.ensures.programs).once
    (program_counts d e 0 0 0 1 false (omega arith) (omega arith) c.in_err-retire.ensures.programs).once
    (still_dead d e false c.in_err-retire.ensures.programs) is)

pub returns-clause-worn : goal.returns-clause-worn
returns-clause-worn g c =
    let d = g.B.FlashBank.bank c.args.self.now.spare in
    let e = g.B.FlashBank.bank c.retire.new.bank in
    let h = g.B.FlashBank.bank c.note.new.bank in
    on_ok_of c.note.result (λ ok f is. parted c.args.self.now.front f (g.B.FlashBank.bank c.args.self.now.live) (g.B.FlashBank.bank c.confirm.new.bank) d e h
    d.torn
    c.in_ok-confirm.ensures.programs c.in_ok-retire.ensures.programs (subst (λ (b : Bool). Programs 1 0 b e h) ok c.note.ensures.programs) refl
    (λ firm zero. true_is_false c.is_noted.result (c.is_noted.ensures.firm firm zero) c.if-is_noted.false) is)

pub returns-clause-cut : goal.returns-clause-cut
returns-clause-cut g c =
    let a = g.B.FlashBank.bank c.args.self.now.live in
    let b = g.B.FlashBank.bank c.confirm.new.bank in
    let d = g.B.FlashBank.bank c.args.self.now.spare in
    let e = g.B.FlashBank.bank c.retire.new.bank in
    let h = g.B.FlashBank.bank c.note.new.bank in
    let ok = is_ok c.note.result in
    on_err c.note.result (λ f is. both_ways_more c.args.self.now.front f a b d h (zero_keeps c.args.self.now.front a b 2 true c.in_ok-confirm.ensures.programs)
    (then_keeps (front_in d) d e h (zero_keeps (front_in d) d e 0 true c.in_ok-retire.ensures.programs)
    (zero_keeps (front_in d) e h 1 ok c.note.ensures.programs))
    (front_in-same d h (λ i three. c.note.ensures.programs.others i (λ x. omega (arith, x, three))
    ∙ c.in_ok-retire.ensures.programs.others i (λ x. omega (arith, x, three))))
    (program_counts a b 2 0 2 3 true (omega arith) (omega arith) c.in_ok-confirm.ensures.programs).once
    (then_counts d e h 0 1 2 (omega arith) (omega arith)
    (program_counts d e 0 0 0 1 true (omega arith) (omega arith) c.in_ok-retire.ensures.programs)
    (program_counts e h 1 0 1 2 ok (omega arith) (omega arith) c.note.ensures.programs)).once
    (λ dead. inl (c.note.ensures.programs.others 0 (λ x. omega (arith, x)) ∙ c.in_ok-retire.ensures.programs.done refl)) is)
