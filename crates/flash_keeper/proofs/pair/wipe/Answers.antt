use Rattle.std.proofs.Common.{is_ok, false}
use Rattle.flash_keeper.proofs.Outcomes.{on_err, on_err_of}
use Rattle.flash_keeper.proofs.WearLemmas.{spare_retired, wiped_cut}
use Rattle.flash_keeper.proofs.pair.wipe.Goals as goal

pub returns-in_err-retire-clause-worn : goal.returns-in_err-retire-clause-worn
returns-in_err-retire-clause-worn g c = on_err c.from_residual.result (λ f spare.
    spare_retired f (g.B.FlashBank.bank c.args.bank.now) (g.B.FlashBank.bank c.retire.new.bank) false c.in_err-retire.ensures.programs spare)

pub returns-clause-worn : goal.returns-clause-worn
returns-clause-worn g c = on_err_of c.erase.result (λ failed f spare.
    wiped_cut f (g.B.FlashBank.bank c.args.bank.now) (g.B.FlashBank.bank c.retire.new.bank) (g.B.FlashBank.bank c.erase.new.self) (is_ok c.erase.result)
    c.in_ok-retire.ensures.programs c.erase.ensures.erases failed spare)
