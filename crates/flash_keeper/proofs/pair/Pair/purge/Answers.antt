use Rattle.std.proofs.Common.{◌∙◌}
use Rattle.flash_keeper.proofs.Outcomes.{on_err, one_ok, one_err, both_err}
use Rattle.flash_keeper.proofs.BankLemmas.{wiped_is_ready, wiped_is_held, rewritten_is_held, rewritten_found, rewritten_records}
use Rattle.flash_keeper.proofs.KeeperLemmas.{nothing_else}
use Rattle.flash_keeper.proofs.WearLemmas.{wiped_worn, cut_in_copy}
use Rattle.flash_keeper.proofs.pair.Pair.purge.Goals as goal

pub returns-in_err-rewrite-clause-held : goal.returns-in_err-rewrite-clause-held
returns-in_err-rewrite-clause-held g c =
    on_err c.from_residual.result (rewritten_is_held c.args.self.now.front _ _ _ _ _ c.args.self.now.next _ _ c.requires.ready
    c.in_err-rewrite.ensures.front c.in_err-rewrite.ensures.next c.in_err-rewrite.ensures.held)

pub returns-in_err-rewrite-clause-found : goal.returns-in_err-rewrite-clause-found
returns-in_err-rewrite-clause-found g c = on_err c.from_residual.result (rewritten_found c.args.self.now.front _ _ _ _ _ c.args.self.now.next _ c.requires.ready
    c.in_err-rewrite.ensures.front c.in_err-rewrite.ensures.next c.in_err-rewrite.ensures.left)

pub returns-in_err-rewrite-clause-records : goal.returns-in_err-rewrite-clause-records
returns-in_err-rewrite-clause-records g c =
    rewritten_records c.args.self.now.front _ (g.B.FlashBank.bank c.args.self.now.live) (g.B.FlashBank.bank c.rewrite.new.self.live) c.args.self.now.next _
    c.requires.ready.log.has_front c.in_err-rewrite.ensures.front c.in_err-rewrite.ensures.next c.in_err-rewrite.ensures.same

pub returns-clause-ready : goal.returns-clause-ready
returns-clause-ready g c = one_ok c.wipe.result (λ blank.
    wiped_is_ready c.rewrite.new.self.front (g.B.FlashBank.bank c.rewrite.new.self.live) (g.B.FlashBank.bank c.rewrite.new.self.spare)
    (g.B.FlashBank.bank c.wipe.new.bank)
    c.rewrite.new.self.next c.in_ok-rewrite.ensures.ready blank c.wipe.ensures.size)
    c.wipe.ensures.blank

pub returns-clause-held : goal.returns-clause-held
returns-clause-held g c =
    let live = g.B.FlashBank.bank c.rewrite.new.self.live in
    one_err c.wipe.result (λ dead. wiped_is_held c.rewrite.new.self.front live (g.B.FlashBank.bank c.rewrite.new.self.spare)
    (g.B.FlashBank.bank c.wipe.new.bank)
    c.rewrite.new.self.next c.rewrite.new.self.copied c.in_ok-rewrite.ensures.ready dead c.wipe.ensures.size c.in_ok-rewrite.ensures.fresh)
    (c.wipe.ensures.dead c.in_ok-rewrite.ensures.ready.beside)

pub returns-clause-found : goal.returns-clause-found
returns-clause-found g c = on_err c.wipe.result (nothing_else c.rewrite.new.self.front _ _ _ c.in_ok-rewrite.ensures.ready ∙ c.in_ok-rewrite.ensures.records)

pub returns-in_err-rewrite-clause-cut : goal.returns-in_err-rewrite-clause-cut
returns-in_err-rewrite-clause-cut g c = on_err c.from_residual.result c.in_err-rewrite.ensures.cut

pub returns-clause-worn : goal.returns-clause-worn
returns-clause-worn g c = one_ok c.wipe.result (λ blank f is.
    wiped_worn c.rewrite.new.self.front f (g.B.FlashBank.bank c.rewrite.new.self.live) (g.B.FlashBank.bank c.rewrite.new.self.spare)
    (g.B.FlashBank.bank c.wipe.new.bank)
    c.in_ok-rewrite.ensures.marked blank.fresh (c.in_ok-rewrite.ensures.worn f is)) c.wipe.ensures.blank

pub returns-clause-cut : goal.returns-clause-cut
returns-clause-cut g c = both_err c.wipe.result (λ worn dead f is.
    cut_in_copy c.rewrite.new.self.front f (g.B.FlashBank.bank c.rewrite.new.self.live) (g.B.FlashBank.bank c.rewrite.new.self.spare)
    (g.B.FlashBank.bank c.wipe.new.bank) dead (worn f)
    (c.in_ok-rewrite.ensures.worn f is)) c.wipe.ensures.worn (c.wipe.ensures.dead c.in_ok-rewrite.ensures.ready.beside)
