use Rattle.flash_keeper.proofs.Outcomes.{on_err, one_err}
use Rattle.flash_keeper.proofs.WearLemmas.{few_spare}
use Rattle.flash_keeper.proofs.pair.copy_to.Goals as goal

pub returns-in_err-begin-clause-worn : goal.returns-in_err-begin-clause-worn
returns-in_err-begin-clause-worn g c = on_err c.from_residual.result c.in_err-begin.ensures.worn

pub returns-clause-worn : goal.returns-clause-worn
returns-clause-worn g c = one_err c.copy_records.result (λ few f spare. few_spare f (g.B.FlashBank.bank c.copy_records.new.to) few)
    c.copy_records.ensures.once
