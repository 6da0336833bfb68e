use Rattle.std.proofs.Common.{◌≡◌, ℕ, ◌+◌, Bool, is_ok, subst, ap}
use Rattle.flash_keeper.specs.Flash.{Programs}
use Rattle.flash_keeper.specs.Log.{mark}
use Rattle.flash_keeper.proofs.Outcomes.{on_ok_of}
use Rattle.flash_keeper.proofs.LogLemmas.{settled_again, left_marked}
use Rattle.flash_keeper.proofs.WearLemmas.{same_words}
use Rattle.flash_keeper.proofs.cells.mark_cell.Goals as goal

pub returns-clause-settled : goal.returns-clause-settled
returns-clause-settled g c =
    let old = g.B.FlashBank.bank c.args.bank.now in
    let new = g.B.FlashBank.bank c.program.new.self in
    let at : c.place_of.result + 11 ≡ mark c.args.front c.args.cell = ap (λ (n : ℕ). n + 11) c.place_of.ensures in
    let p : Programs (mark c.args.front c.args.cell) 0 (is_ok c.program.result) old new = subst (λ (n : ℕ). Programs n 0 (is_ok c.program.result) old new) at
    c.program.ensures.programs in
    on_ok_of c.program.result (λ ok choice left fenced.
    settled_again c.args.front old new c.args.cell choice c.requires.within left fenced
    (subst (λ (b : Bool). Programs (mark c.args.front c.args.cell) 0 b old new) ok p))

pub returns-clause-left : goal.returns-clause-left
returns-clause-left g c =
    let old = g.B.FlashBank.bank c.args.bank.now in
    let new = g.B.FlashBank.bank c.program.new.self in
    let at : c.place_of.result + 11 ≡ mark c.args.front c.args.cell = ap (λ (n : ℕ). n + 11) c.place_of.ensures in
    let p : Programs (mark c.args.front c.args.cell) 0 (is_ok c.program.result) old new = subst (λ (n : ℕ). Programs n 0 (is_ok c.program.result) old new) at
    c.program.ensures.programs in
    λ choice left fenced. left_marked c.args.front old new c.args.cell choice (is_ok c.program.result) c.requires.within left fenced p

pub returns-clause-programs : goal.returns-clause-programs
returns-clause-programs g c =
    let old = g.B.FlashBank.bank c.args.bank.now in
    let new = g.B.FlashBank.bank c.program.new.self in
    subst (λ (n : ℕ). Programs n 0 (is_ok c.program.result) old new) (ap (λ (n : ℕ). n + 11) c.place_of.ensures) c.program.ensures.programs

pub returns-clause-same : goal.returns-clause-same
returns-clause-same g c =
    let old = g.B.FlashBank.bank c.args.bank.now in
    let new = g.B.FlashBank.bank c.program.new.self in
    same_words old new (mark c.args.front c.args.cell) 0 (is_ok c.program.result)
    (subst (λ (n : ℕ). Programs n 0 (is_ok c.program.result) old new) (ap (λ (n : ℕ). n + 11) c.place_of.ensures) c.program.ensures.programs)
