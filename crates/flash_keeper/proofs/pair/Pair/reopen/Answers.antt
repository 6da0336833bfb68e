use Rattle.std.proofs.Common.{ℕ, sym, subst, ◌+◌, false, refl, arith}
use Rattle.flash_keeper.specs.Flash.{Bank}
use Rattle.flash_keeper.specs.Log.{upto}
use Rattle.flash_keeper.specs.Front.{front_in}
use Rattle.flash_keeper.specs.Banks.{AreReady, choice_of, AreWornBoth}
use Rattle.flash_keeper.specs.declared.front.Front.{Front}
use Rattle.flash_keeper.proofs.Outcomes.{on_err, one_ok, one_err}
use Rattle.flash_keeper.proofs.LogLemmas.{one_of}
use Rattle.flash_keeper.proofs.BankLemmas.{still_held, copy_goes_on}
use Rattle.flash_keeper.specs.Wear.{one_if}
use Rattle.flash_keeper.proofs.WearLemmas.{one_least, both_at_most, both_ways_more, zero_keeps, keeps_all, program_counts, no_counts, reopened_worn}
use Rattle.flash_keeper.proofs.pair.Pair.reopen.Goals as goal

pub settle-requires-clause-left : goal.settle-requires-clause-left
settle-requires-clause-left g c =
    (choice_of c.args.self.now.front (g.B.FlashBank.bank c.args.self.now.live) c.args.self.now.next, c.args.self.now.next, c.requires.left)

pub returns-in_default-clause-records : goal.returns-in_default-clause-records
returns-in_default-clause-records g c =
    let n = c.args.self.now.next in
    one_ok c.settle.result (λ f. f n (choice_of c.args.self.now.front (g.B.FlashBank.bank c.args.self.now.live) n) c.requires.left) c.settle.ensures.records

pub returns-in_default-clause-held : goal.returns-in_default-clause-held
returns-in_default-clause-held g c = one_err c.settle.result (λ f. (f c.requires.left).0) c.settle.ensures.held

pub returns-in_default-clause-among : goal.returns-in_default-clause-among
returns-in_default-clause-among g c = one_err c.settle.result (λ f. (f c.requires.left).1) c.settle.ensures.held

pub returns-in_err-hand_over-clause-held : goal.returns-in_err-hand_over-clause-held
returns-in_err-hand_over-clause-held g c =
    let e = c.in_err-hand_over.ensures in
    on_err c.from_residual.result ((still_held c.args.self.now.front _ _ _ _ _ _ _ _ _ e.same_live e.same_spare e.same_front e.same_next e.same_copied
    c.requires).0)

pub returns-in_err-hand_over-clause-among : goal.returns-in_err-hand_over-clause-among
returns-in_err-hand_over-clause-among g c =
    let e = c.in_err-hand_over.ensures in
    on_err c.from_residual.result ((still_held c.args.self.now.front _ _ _ _ _ _ _ _ _ e.same_live e.same_spare e.same_front e.same_next e.same_copied
    c.requires).1)

pub returns-clause-ready : goal.returns-clause-ready
returns-clause-ready g c =
    let spare = g.B.FlashBank.bank c.hand_over.new.self.spare in
    let new = c.hand_over.new.self in
    let e = c.in_ok-hand_over.ensures in
    subst (λ (b : Bank). AreReady new.front b spare new.next) (sym e.live)
    (subst (λ (k : ℕ). AreReady new.front (g.B.FlashBank.bank c.args.self.now.spare) spare k) (sym e.next)
    (subst (λ (f : Front). AreReady f (g.B.FlashBank.bank c.args.self.now.spare) spare 0) (sym e.front)
    (copy_goes_on c.args.self.now.front c.in-Some.front (g.B.FlashBank.bank c.args.self.now.live) (g.B.FlashBank.bank c.args.self.now.spare) spare
    c.args.self.now.next (c.requires.copy_is c.in-Some.front c.in-Some.is) c.requires.sizes e.spare)))

pub returns-clause-records : goal.returns-clause-records
returns-clause-records g c =
    let live = c.in_ok-hand_over.ensures.live in
    let next = c.in_ok-hand_over.ensures.next in
    let front = c.in_ok-hand_over.ensures.front in
    one_of (λ i. upto (front i) (live i).words (next i)) (c.requires.copy_is c.in-Some.front c.in-Some.is).stands

pub returns-in_default-clause-twice : goal.returns-in_default-clause-twice
returns-in_default-clause-twice g c = λ f is.
    let torn = one_least (g.B.FlashBank.bank c.args.self.now.spare).torn in
    both_at_most c.settle.new.self.front (f + one_if (g.B.FlashBank.bank c.args.self.now.spare).torn + 1) (f + 2) (g.B.FlashBank.bank c.settle.new.self.live)
    (g.B.FlashBank.bank c.settle.new.self.spare)
    (omega (arith, torn)) (c.settle.ensures.twice f is)

pub returns-in_err-hand_over-clause-twice : goal.returns-in_err-hand_over-clause-twice
returns-in_err-hand_over-clause-twice g c = λ f is.
    let a = g.B.FlashBank.bank c.args.self.now.live in
    let b = g.B.FlashBank.bank c.hand_over.new.self.live in
    let spare = g.B.FlashBank.bank c.args.self.now.spare in
    let p = c.in_err-hand_over.ensures.same_live in
    let front = c.args.self.now.front in
    subst (λ (h : Front). AreWornBoth h (f + 2) b (g.B.FlashBank.bank c.hand_over.new.self.spare)) (sym c.in_err-hand_over.ensures.same_front)
    (subst (λ (e : Bank). AreWornBoth front (f + 2) b e) (sym c.in_err-hand_over.ensures.same_spare)
    (both_at_most front (f + 1) (f + 2) b spare (omega arith)
    (both_ways_more front f a b spare spare (zero_keeps front a b 0 false p) (keeps_all (front_in spare) spare) refl
    (program_counts a b 0 0 0 1 false (omega arith) (omega arith) p).once
    (no_counts spare 0 0).once (λ dead. dead) is)))

pub returns-clause-twice : goal.returns-clause-twice
returns-clause-twice g c = λ f is.
    let new = c.hand_over.new.self in
    let spare = g.B.FlashBank.bank new.spare in
    let copy = g.B.FlashBank.bank c.args.self.now.spare in
    let e = c.in_ok-hand_over.ensures in
    subst (λ (b : Bank). AreWornBoth new.front (f + 2) b spare) (sym e.live)
    (subst (λ (h : Front). AreWornBoth h (f + 2) copy spare) (sym e.front)
    (reopened_worn c.args.self.now.front c.in-Some.front f (g.B.FlashBank.bank c.args.self.now.live) spare copy
    (c.requires.copy_is c.in-Some.front c.in-Some.is).log.has_front.within e.spare is.0))
