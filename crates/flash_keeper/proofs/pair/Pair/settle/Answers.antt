use Rattle.std.proofs.Common.{◌∙◌, ℕ, inl, ap, subst, sym, ◌+◌, arith}
use Rattle.flash_keeper.specs.Flash.{Bank}
use Rattle.flash_keeper.specs.Log.{IsLeft, AreDecided}
use Rattle.flash_keeper.specs.Banks.{AreHeld, AreAmong, AreLeft, choice_of}
use Rattle.flash_keeper.specs.declared.front.Front.{Front}
use Rattle.flash_keeper.proofs.Outcomes.{on_err, one_ok, one_err}
use Rattle.flash_keeper.proofs.BankLemmas.{decided-same, moved_is_held}
use Rattle.flash_keeper.specs.Wear.{one_if}
use Rattle.flash_keeper.proofs.WearLemmas.{both_at_most}
use Rattle.flash_keeper.proofs.pair.Pair.settle.Goals as goal

pub returns-in_err-part-clause-left : goal.returns-in_err-part-clause-left
returns-in_err-part-clause-left g c = on_err c.from_residual.result (λ n choice left. inl (_, n, c.in_err-part.ensures.left n choice left))

pub finish-requires-clause-number : goal.finish-requires-clause-number
finish-requires-clause-number g c = (c.in_ok-part.ensures.left c.requires.left.1 c.requires.left.0 c.requires.left.2).number

pub finish-requires-clause-log : goal.finish-requires-clause-log
finish-requires-clause-log g c =
    (c.requires.left.0, c.requires.left.1, (c.in_ok-part.ensures.left c.requires.left.1 c.requires.left.0 c.requires.left.2).log)

pub returns-clause-records : goal.returns-clause-records
returns-clause-records g c = one_ok c.finish.result (λ f n choice left. f choice n (c.in_ok-part.ensures.left n choice left).log) c.finish.ensures.records

pub returns-clause-left : goal.returns-clause-left
returns-clause-left g c = one_err c.finish.result (λ f n choice left. f choice n (c.in_ok-part.ensures.left n choice left).log) c.finish.ensures.left

pub returns-in_err-part-clause-in_place : goal.returns-in_err-part-clause-in_place
returns-in_err-part-clause-in_place g c = λ n choice left decided i two. c.in_err-part.ensures.others i two

pub returns-clause-in_place : goal.returns-clause-in_place
returns-clause-in_place g c = λ n choice left decided i two.
    let was = g.B.FlashBank.bank c.args.self.now.live in
    let live = g.B.FlashBank.bank c.part.new.self.live in
    ap (λ (b : Bank). b.words i) (c.finish.ensures.in_place choice n (c.in_ok-part.ensures.left n choice left).log
    (subst (λ (f : Front). AreDecided f live.words n) (sym c.part.ensures.front)
    (decided-same c.args.self.now.front was live n c.in_ok-part.ensures.cells decided))) ∙ c.in_ok-part.ensures.others i two

pub returns-in_err-part-clause-held : goal.returns-in_err-part-clause-held
returns-in_err-part-clause-held g c =
    let was = g.B.FlashBank.bank c.args.self.now.live in
    let live = g.B.FlashBank.bank c.part.new.self.live in
    let spare = g.B.FlashBank.bank c.part.new.self.spare in
    let front = c.args.self.now.front in
    let n = c.args.self.now.next in
    let copied = c.part.new.self.copied in
    let e = c.part.ensures in
    on_err c.from_residual.result (λ left.
    subst (λ (f : Front). AreHeld f live spare c.part.new.self.next copied × AreAmong (choice_of front was n) f live c.part.new.self.next) (sym e.front)
    (subst (λ (k : ℕ). AreHeld front live spare k copied × AreAmong (choice_of front was n) front live k) (sym e.next)
    (moved_is_held front was live spare n copied left.log.has_front (e.live_size ∙ c.requires.sizes ∙ sym e.spare_size) e.cells
    (e.copied ∙ c.requires.fresh) (subst (λ (f : Front). AreLeft f live spare n (choice_of front was n)) e.front (e.left n (choice_of front was n) left)))))

pub returns-clause-held : goal.returns-clause-held
returns-clause-held g c =
    let was = g.B.FlashBank.bank c.args.self.now.live in
    let live = g.B.FlashBank.bank c.part.new.self.live in
    let front = c.args.self.now.front in
    let n = c.args.self.now.next in
    one_err c.finish.result (λ f left. f (choice_of front was n) (subst (λ (k : ℕ). IsLeft c.part.new.self.front live k (choice_of front was n))
    (sym c.part.ensures.next) (c.part.ensures.left n (choice_of front was n) left).log)) c.finish.ensures.held

pub returns-in_err-part-clause-twice : goal.returns-in_err-part-clause-twice
returns-in_err-part-clause-twice g c = λ f is.
    both_at_most c.part.new.self.front (f + 1) (f + one_if (g.B.FlashBank.bank c.args.self.now.spare).torn + 1) (g.B.FlashBank.bank c.part.new.self.live)
    (g.B.FlashBank.bank c.part.new.self.spare)
    (omega arith) (c.in_err-part.ensures.cut f is)

pub returns-clause-worn : goal.returns-clause-worn
returns-clause-worn g c = one_ok c.finish.result (λ worn f fits is.
    worn (f + one_if (g.B.FlashBank.bank c.args.self.now.spare).torn) fits (c.in_ok-part.ensures.worn f is)) c.finish.ensures.worn

pub returns-clause-twice : goal.returns-clause-twice
returns-clause-twice g c = λ f is. c.finish.ensures.once (f + one_if (g.B.FlashBank.bank c.args.self.now.spare).torn) (c.in_ok-part.ensures.worn f is.0)

pub returns-in_err-part-clause-front : goal.returns-in_err-part-clause-front
returns-in_err-part-clause-front g c = (c.in_err-part.ensures.left c.requires.left.1 c.requires.left.0 c.requires.left.2).log.has_front

pub returns-clause-front : goal.returns-clause-front
returns-clause-front g c = c.finish.ensures.front
