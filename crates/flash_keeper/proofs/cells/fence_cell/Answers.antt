use Rattle.std.proofs.Common.{◌≡◌, ℕ, ◌+◌, is_ok, subst, ap}
use Rattle.flash_keeper.specs.Flash.{Programs}
use Rattle.flash_keeper.specs.Log.{fence}
use Rattle.flash_keeper.proofs.LogLemmas.{left_fenced}
use Rattle.flash_keeper.proofs.cells.fence_cell.Goals as goal

pub returns-clause-left : goal.returns-clause-left
returns-clause-left g c =
    let old = g.B.FlashBank.bank c.args.bank.now in
    let new = g.B.FlashBank.bank c.program.new.self in
    let at : c.place_of.result + 10 ≡ fence c.args.front c.args.cell = ap (λ (n : ℕ). n + 10) c.place_of.ensures in
    let p : Programs (fence c.args.front c.args.cell) 0 (is_ok c.program.result) old new = subst (λ (n : ℕ). Programs n 0 (is_ok c.program.result) old new) at
    c.program.ensures.programs in
    λ choice left. left_fenced c.args.front old new c.args.cell choice (is_ok c.program.result) c.requires.within left c.requires.fenced p

pub returns-clause-programs : goal.returns-clause-programs
returns-clause-programs g c =
    let old = g.B.FlashBank.bank c.args.bank.now in
    let new = g.B.FlashBank.bank c.program.new.self in
    subst (λ (n : ℕ). Programs n 0 (is_ok c.program.result) old new) (ap (λ (n : ℕ). n + 10) c.place_of.ensures) c.program.ensures.programs
