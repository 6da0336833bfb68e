use Rattle.std.proofs.Common.{is_ok, Bool, subst}
use Rattle.flash_keeper.specs.Flash.{Programs}
use Rattle.flash_keeper.proofs.Outcomes.{on_ok, on_err, on_ok_of}
use Rattle.flash_keeper.proofs.FrontLemmas.{numbered_front, records_numbered, fresh_numbered, once_of_number}
use Rattle.flash_keeper.proofs.front.write_number.Goals as goal

pub returns-clause-settled : goal.returns-clause-settled
returns-clause-settled g c =
    let old = g.B.FlashBank.bank c.args.bank.now in
    let new = g.B.FlashBank.bank c.program.new.self in
    on_ok_of c.program.result (λ ok. numbered_front c.args.front old new c.number_word.result (g.met.B.FlashBank.fits c.args.bank.now).1
    c.number_word.ensures c.requires (subst (λ (b : Bool). Programs 3 c.number_word.result b old new) ok c.program.ensures.programs))

pub returns-clause-records : goal.returns-clause-records
returns-clause-records g c = records_numbered c.args.front (g.B.FlashBank.bank c.args.bank.now) (g.B.FlashBank.bank c.program.new.self)
    c.number_word.result (is_ok c.program.result) c.requires c.program.ensures.programs

pub returns-clause-fresh : goal.returns-clause-fresh
returns-clause-fresh g c = on_ok c.program.result (fresh_numbered c.args.front (g.B.FlashBank.bank c.args.bank.now) (g.B.FlashBank.bank c.program.new.self)
    c.number_word.result (is_ok c.program.result) c.requires c.program.ensures.programs)

pub returns-clause-once : goal.returns-clause-once
returns-clause-once g c = on_err c.program.result (once_of_number c.args.front (g.B.FlashBank.bank c.args.bank.now) (g.B.FlashBank.bank c.program.new.self)
    c.number_word.result (is_ok c.program.result) c.requires c.program.ensures.programs)
