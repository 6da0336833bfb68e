use Rattle.std.proofs.Common.{◌∙◌, is_ok, true, false, arith}
use Rattle.flash_keeper.specs.Flash.{head_word}
use Rattle.flash_keeper.proofs.Outcomes.{on_err, on_ok_of}
use Rattle.flash_keeper.proofs.FrontLemmas.{begun_front}
use Rattle.flash_keeper.proofs.WearLemmas.{headed_few, begun_counts, few_spare}
use Rattle.flash_keeper.proofs.pair.begin.Goals as goal

pub returns-in_err-wipe-clause-worn : goal.returns-in_err-wipe-clause-worn
returns-in_err-wipe-clause-worn g c = on_err c.from_residual.result c.in_err-wipe.ensures.worn

pub returns-in_err-program-clause-worn : goal.returns-in_err-program-clause-worn
returns-in_err-program-clause-worn g c = on_err c.from_residual-in_err-program.result (λ f spare.
    headed_few f (g.B.FlashBank.bank c.wipe.new.bank) (g.B.FlashBank.bank c.program.new.self) head_word false c.in_ok-wipe.ensures.blank
    c.in_err-program.ensures.programs)

pub returns-clause-front : goal.returns-clause-front
returns-clause-front g c =
    let a = g.B.FlashBank.bank c.wipe.new.bank in
    let b = g.B.FlashBank.bank c.program.new.self in
    let e = g.B.FlashBank.bank c.program-2.new.self in
    let p = c.in_ok-program.ensures.programs in
    let q = c.program-2.ensures.programs in
    on_ok_of c.program-2.result (λ ok.
    begun_front a e c.in_ok-wipe.ensures.blank (g.met.B.FlashBank.fits c.program-2.new.self).0 (q.torn ∙ p.torn)
    (λ i two. q.others i (λ x. omega (arith, x, two)) ∙ p.others i (λ x. omega (arith, x, two)))
    (begun_counts a b e head_word c.args.generation true (is_ok c.program-2.result) p q))

pub returns-clause-worn : goal.returns-clause-worn
returns-clause-worn g c =
    let a = g.B.FlashBank.bank c.wipe.new.bank in
    let b = g.B.FlashBank.bank c.program.new.self in
    let e = g.B.FlashBank.bank c.program-2.new.self in
    let counts = begun_counts a b e head_word c.args.generation true (is_ok c.program-2.result) c.in_ok-program.ensures.programs
    c.program-2.ensures.programs in
    on_err c.program-2.result (λ f spare. few_spare f e (λ i. let none = c.in_ok-wipe.ensures.blank.fresh i in let once = counts.once i in
    omega (arith, none, once)))
