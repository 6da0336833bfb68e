use Rattle.std.proofs.Common.{◌∙◌}
use Rattle.flash_keeper.proofs.Outcomes.{on_err}
use Rattle.flash_keeper.proofs.BankLemmas.{ready_is_held, rewritten_is_held, rewritten_found, rewritten_records}
use Rattle.flash_keeper.proofs.KeeperLemmas.{nothing_else}
use Rattle.flash_keeper.proofs.WearLemmas.{both_beside_dead}
use Rattle.flash_keeper.proofs.pair.Pair.make_room.Goals as goal

pub returns-in_err-rewrite-clause-held : goal.returns-in_err-rewrite-clause-held
returns-in_err-rewrite-clause-held g c =
    on_err c.from_residual.result (rewritten_is_held c.args.self.now.front _ _ _ _ _ c.args.self.now.next _ _ c.requires.ready
    c.in_err-rewrite.ensures.front c.in_err-rewrite.ensures.next c.in_err-rewrite.ensures.held)

pub returns-in_err-rewrite-clause-found : goal.returns-in_err-rewrite-clause-found
returns-in_err-rewrite-clause-found g c = on_err c.from_residual.result (rewritten_found c.args.self.now.front _ _ _ _ _ c.args.self.now.next _ c.requires.ready
    c.in_err-rewrite.ensures.front c.in_err-rewrite.ensures.next c.in_err-rewrite.ensures.left)

pub returns-in_err-rewrite-clause-records : goal.returns-in_err-rewrite-clause-records
returns-in_err-rewrite-clause-records g c =
    rewritten_records c.args.self.now.front _ (g.B.FlashBank.bank c.args.self.now.live) (g.B.FlashBank.bank c.rewrite.new.self.live) c.args.self.now.next _
    c.requires.ready.log.has_front c.in_err-rewrite.ensures.front c.in_err-rewrite.ensures.next c.in_err-rewrite.ensures.same

pub returns-clause-held : goal.returns-clause-held
returns-clause-held g c = ready_is_held c.rewrite.new.self.front _ _ _ _ c.in_ok-rewrite.ensures.ready c.in_ok-rewrite.ensures.fresh

pub returns-clause-found : goal.returns-clause-found
returns-clause-found g c = nothing_else c.rewrite.new.self.front _ _ _ c.in_ok-rewrite.ensures.ready ∙ c.in_ok-rewrite.ensures.records

pub returns-in_err-rewrite-clause-cut : goal.returns-in_err-rewrite-clause-cut
returns-in_err-rewrite-clause-cut g c = on_err c.from_residual.result c.in_err-rewrite.ensures.cut

pub returns-clause-cut : goal.returns-clause-cut
returns-clause-cut g c =
    λ f is. both_beside_dead c.rewrite.new.self.front f (g.B.FlashBank.bank c.rewrite.new.self.live) (g.B.FlashBank.bank c.rewrite.new.self.spare)
    c.in_ok-rewrite.ensures.ready.beside (c.in_ok-rewrite.ensures.worn f is)
