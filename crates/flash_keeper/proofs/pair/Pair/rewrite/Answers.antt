use Rattle.std.proofs.Common.{◌∙◌, inr, true, false, refl, sym, subst, ℕ, arith, ap, ◌+◌}
use Rattle.flash_keeper.specs.Flash.{Bank}
use Rattle.flash_keeper.specs.Log.{upto}
use Rattle.flash_keeper.specs.Banks.{AreLeft, AreHeld, AreReady, IsLive, choice_of, AreWornBoth}
use Rattle.flash_keeper.specs.declared.front.Front.{Front}
use Rattle.flash_keeper.proofs.Outcomes.{on_err}
use Rattle.flash_keeper.proofs.BankLemmas.{copy_stands, copy_is_ready, marked_log, numbered-same, word_of_left, after_head}
use Rattle.flash_keeper.proofs.BankLemmas.{held_beside_dead, held_beside_standing, handed_is_held}
use Rattle.flash_keeper.specs.Wear.{AreWorn}
use Rattle.flash_keeper.proofs.FrontLemmas.{marked_front}
use Rattle.flash_keeper.proofs.WearLemmas.{handed_over, cut_in_copy, cut_in_mark, cut_in_retirement}
use Rattle.flash_keeper.proofs.pair.Pair.rewrite.Goals as goal

pub returns-in_err-front-clause-held : goal.returns-in_err-front-clause-held
returns-in_err-front-clause-held g c = on_err c.from_residual.result (λ n choice left one.
    (held_beside_dead c.args.self.now.front (g.B.FlashBank.bank c.args.self.now.live) (g.B.FlashBank.bank c.copy_to.new.to) n c.args.self.now.copied choice
    (c.requires.sizes ∙ sym c.copy_to.ensures.size) c.requires.number c.requires.mark left c.in_err-front.ensures.dead c.requires.fresh).0)

pub returns-in_err-confirm-clause-left : goal.returns-in_err-confirm-clause-left
returns-in_err-confirm-clause-left g c = on_err c.from_residual-in_err-confirm.result (λ n choice left one. record {
  number = c.requires.number;
  log = left;
  beside = inr (copy_stands c.in_ok-front.front (g.B.FlashBank.bank c.copy_to.new.to) (g.B.FlashBank.bank c.confirm.new.bank) _
      0 false choice (upto c.args.self.now.front (g.B.FlashBank.bank c.args.self.now.live).words c.args.cells) (omega arith) c.in_ok-front.ensures.head
      c.in_ok-front.ensures.log c.in_ok-front.ensures.records c.in_err-confirm.ensures.programs one);
})

pub returns-in_err-confirm-clause-held : goal.returns-in_err-confirm-clause-held
returns-in_err-confirm-clause-held g c = on_err c.from_residual-in_err-confirm.result (λ n choice left one.
    held_beside_standing c.args.self.now.front (g.B.FlashBank.bank c.args.self.now.live) (g.B.FlashBank.bank c.confirm.new.bank) n c.args.self.now.copied choice
    (c.requires.sizes ∙ sym c.copy_to.ensures.size ∙ sym c.in_err-confirm.ensures.programs.size) c.requires.number left
    (copy_stands c.in_ok-front.front (g.B.FlashBank.bank c.copy_to.new.to) (g.B.FlashBank.bank c.confirm.new.bank) _ 0 false
    (choice_of c.args.self.now.front (g.B.FlashBank.bank c.args.self.now.live) n)
    (upto c.args.self.now.front (g.B.FlashBank.bank c.args.self.now.live).words c.args.cells) (omega arith)
    c.in_ok-front.ensures.head c.in_ok-front.ensures.log c.in_ok-front.ensures.records c.in_err-confirm.ensures.programs one)
    c.requires.fresh)

pub returns-in_err-hand_over-clause-same : goal.returns-in_err-hand_over-clause-same
returns-in_err-hand_over-clause-same g c = on_err c.from_residual-in_err-hand_over.result (after_head 0 0 false (g.B.FlashBank.bank c.args.self.now.live)
    (g.B.FlashBank.bank c.hand_over.new.self.live) (omega arith) c.in_err-hand_over.ensures.same_live)

pub returns-in_err-hand_over-clause-left : goal.returns-in_err-hand_over-clause-left
returns-in_err-hand_over-clause-left g c = on_err c.from_residual-in_err-hand_over.result (λ n choice left one.
    subst (λ (b : Bank). AreLeft c.args.self.now.front (g.B.FlashBank.bank c.hand_over.new.self.live) b n choice) (sym c.in_err-hand_over.ensures.same_spare)
    (record {
      number = numbered-same (g.B.FlashBank.bank c.args.self.now.live) (g.B.FlashBank.bank c.hand_over.new.self.live)
          c.in_err-hand_over.ensures.same_live.torn (c.in_err-hand_over.ensures.same_live.others 1 (λ e. omega (arith, e))) c.requires.number;
      log = word_of_left c.args.self.now.front (g.B.FlashBank.bank c.args.self.now.live) (g.B.FlashBank.bank c.hand_over.new.self.live) 0 n choice false
          (omega arith) c.in_err-hand_over.ensures.same_live left;
      beside = inr (copy_stands c.in_ok-front.front (g.B.FlashBank.bank c.copy_to.new.to) (g.B.FlashBank.bank c.confirm.new.bank) _
          0 true choice (upto c.args.self.now.front (g.B.FlashBank.bank c.args.self.now.live).words c.args.cells) (omega arith) c.in_ok-front.ensures.head
          c.in_ok-front.ensures.log c.in_ok-front.ensures.records c.in_ok-confirm.ensures.programs one);
    }))

pub returns-in_err-hand_over-clause-held : goal.returns-in_err-hand_over-clause-held
returns-in_err-hand_over-clause-held g c = on_err c.from_residual-in_err-hand_over.result (λ n choice left one.
    subst (λ (b : Bank). AreHeld c.args.self.now.front (g.B.FlashBank.bank c.hand_over.new.self.live) b n c.hand_over.new.self.copied)
    (sym c.in_err-hand_over.ensures.same_spare)
    (handed_is_held c.args.self.now.front c.in_ok-front.front (g.B.FlashBank.bank c.args.self.now.live) (g.B.FlashBank.bank c.hand_over.new.self.live)
    (g.B.FlashBank.bank c.copy_to.new.to)
    (g.B.FlashBank.bank c.confirm.new.bank) _ n c.args.cells c.hand_over.new.self.copied choice (omega arith)
    c.in_ok-front.ensures.head c.in_ok-front.ensures.log c.in_ok-confirm.ensures.programs c.in_err-hand_over.ensures.same_live
    (c.copy_to.ensures.size ∙ sym c.requires.sizes) c.in_ok-front.ensures.records c.requires.number left one
    c.in_err-hand_over.ensures.same_copied))

pub returns-clause-records : goal.returns-clause-records
returns-clause-records g c =
    let live = c.in_ok-hand_over.ensures.live in
    let next = c.in_ok-hand_over.ensures.next in
    let front = c.in_ok-hand_over.ensures.front in
    (λ i. upto (front i) (live i).words (next i))
    ∙ (marked_log c.in_ok-front.front (g.B.FlashBank.bank c.copy_to.new.to) (g.B.FlashBank.bank c.confirm.new.bank) _ 0 true
    c.in_ok-front.ensures.head c.in_ok-front.ensures.log c.in_ok-confirm.ensures.programs).2
    ∙ c.in_ok-front.ensures.records

pub returns-clause-head : goal.returns-clause-head
returns-clause-head g c =
    let all = marked_log c.in_ok-front.front (g.B.FlashBank.bank c.copy_to.new.to) (g.B.FlashBank.bank c.confirm.new.bank) _ 0 true
    c.in_ok-front.ensures.head c.in_ok-front.ensures.log c.in_ok-confirm.ensures.programs in
    subst (λ (b : Bank). IsLive b c.hand_over.new.self.generation) (sym c.in_ok-hand_over.ensures.live)
    (subst (λ (k : ℕ). IsLive (g.B.FlashBank.bank c.confirm.new.bank) k) (sym c.in_ok-hand_over.ensures.generation)
    (all.0, c.in_ok-confirm.ensures.programs.done refl))

pub returns-clause-ready : goal.returns-clause-ready
returns-clause-ready g c =
    let e = c.in_ok-hand_over.ensures in
    let new = c.hand_over.new.self in
    let spare = g.B.FlashBank.bank new.spare in
    let ready = copy_is_ready c.in_ok-front.front (g.B.FlashBank.bank c.args.self.now.live) spare
    (g.B.FlashBank.bank c.copy_to.new.to) (g.B.FlashBank.bank c.confirm.new.bank) _ 0 (omega arith) c.in_ok-front.ensures.head c.in_ok-front.ensures.log
    c.in_ok-confirm.ensures.programs e.spare (c.copy_to.ensures.size ∙ sym c.requires.sizes) in
    subst (λ (b : Bank). AreReady new.front b spare new.next) (sym e.live)
    (subst (λ (k : ℕ). AreReady new.front (g.B.FlashBank.bank c.confirm.new.bank) spare k) (sym e.next)
    (subst (λ (f : Front). AreReady f (g.B.FlashBank.bank c.confirm.new.bank) spare 0) (sym e.front) ready))

pub returns-clause-worn : goal.returns-clause-worn
returns-clause-worn g c = λ f is.
    let e = c.in_ok-hand_over.ensures in
    let new = c.hand_over.new.self in
    let spare = g.B.FlashBank.bank new.spare in
    let copied = c.in_ok-front.front in
    subst (λ (b : Bank). AreWorn new.front f b spare) (sym e.live)
    (subst (λ (h : Front). AreWorn h f (g.B.FlashBank.bank c.confirm.new.bank) spare) (sym e.front)
    (handed_over c.args.self.now.front copied f (g.B.FlashBank.bank c.args.self.now.live) spare (g.B.FlashBank.bank c.args.self.now.spare)
    (g.B.FlashBank.bank c.copy_to.new.to) (g.B.FlashBank.bank c.confirm.new.bank) true true c.in_ok-front.ensures.fresh
    c.in_ok-confirm.ensures.programs e.spare is))

pub returns-clause-marked : goal.returns-clause-marked
returns-clause-marked g c =
    let same = ap (λ (b : Bank). b.programs 2) c.in_ok-hand_over.ensures.live in
    let once = c.in_ok-confirm.ensures.programs.once in
    let none = c.in_ok-front.ensures.fresh.mark in
    omega (arith, same, once, none)

pub returns-in_err-front-clause-cut : goal.returns-in_err-front-clause-cut
returns-in_err-front-clause-cut g c = on_err c.from_residual.result (λ f is.
    cut_in_copy c.args.self.now.front f (g.B.FlashBank.bank c.args.self.now.live) (g.B.FlashBank.bank c.args.self.now.spare)
    (g.B.FlashBank.bank c.copy_to.new.to) c.in_err-front.ensures.dead (c.in_err-front.ensures.worn f) is)

pub returns-in_err-confirm-clause-cut : goal.returns-in_err-confirm-clause-cut
returns-in_err-confirm-clause-cut g c =
    let copied = c.in_ok-front.front in
    let b0 = g.B.FlashBank.bank c.copy_to.new.to in
    let b1 = g.B.FlashBank.bank c.confirm.new.bank in
    let p = c.in_err-confirm.ensures.programs in
    on_err c.from_residual-in_err-confirm.result (λ f is.
    cut_in_mark c.args.self.now.front copied f (g.B.FlashBank.bank c.args.self.now.live) (g.B.FlashBank.bank c.args.self.now.spare) b0 b1 false
    c.in_ok-front.ensures.fresh p (marked_front copied b0 b1 false c.in_ok-front.ensures.log p) is)

pub returns-in_err-hand_over-clause-cut : goal.returns-in_err-hand_over-clause-cut
returns-in_err-hand_over-clause-cut g c =
    let front = c.args.self.now.front in
    let new = c.hand_over.new.self in
    let live = g.B.FlashBank.bank new.live in
    let copied = c.in_ok-front.front in
    let b0 = g.B.FlashBank.bank c.copy_to.new.to in
    let b1 = g.B.FlashBank.bank c.confirm.new.bank in
    let p = c.in_ok-confirm.ensures.programs in
    let e = c.in_err-hand_over.ensures in
    on_err c.from_residual-in_err-hand_over.result (λ f is.
    subst (λ (h : Front). AreWornBoth h (f + 1) live (g.B.FlashBank.bank new.spare)) (sym e.same_front)
    (subst (λ (b : Bank). AreWornBoth front (f + 1) live b) (sym e.same_spare)
    (cut_in_retirement front copied f (g.B.FlashBank.bank c.args.self.now.live) live (g.B.FlashBank.bank c.args.self.now.spare) b0 b1 true false
    c.in_ok-front.ensures.fresh p (marked_front copied b0 b1 true c.in_ok-front.ensures.log p) e.same_live is)))
