use Rattle.std.proofs.Common.{◌∙◌, inr, ap, ◌+◌, ◌≤◌, subst}
use Rattle.flash_keeper.specs.Banks.{FlashStore}
use Rattle.flash_keeper.proofs.KeeperLemmas.{nothing_else, purged_is}
use Rattle.flash_keeper.specs.Wear.{worn_with}
use Rattle.flash_keeper.proofs.Outcomes.{on_err}
use Rattle.flash_keeper.proofs.MeasureLemmas.{with_cut, with_same}
use Rattle.flash_keeper.proofs.keeper.FlashKeeper.purge.Goals as goal

pub returns-clause-left : goal.returns-clause-left
returns-clause-left g c = inr (nothing_else _ _ _ _ c.in_ok-purge.ensures.ready ∙ c.purge.ensures.records ∙ ap (λ (s : FlashStore). s.store.records)
    c.self.view_is)

pub returns-clause-purged : goal.returns-clause-purged
returns-clause-purged g c =
    let pair = c.purge.new.self in
    purged_is (g.B.FlashBank.bank pair.spare) pair.next c.in_ok-purge.ensures.none c.in_ok-purge.ensures.blank

pub returns-in_err-purge-clause-cut : goal.returns-in_err-purge-clause-cut
returns-in_err-purge-clause-cut g c =
    let pair = c.purge.new.self in
    on_err c.from_residual.result (subst (λ (s : FlashStore). worn_with pair.front (g.B.FlashBank.bank pair.live) (g.B.FlashBank.bank pair.spare) ≤ s.worn + 1)
    c.self.view_is
    (with_cut c.self.inside.pair.front pair.front (g.B.FlashBank.bank c.self.inside.pair.live) (g.B.FlashBank.bank c.self.inside.pair.spare)
    (g.B.FlashBank.bank pair.live)
    (g.B.FlashBank.bank pair.spare) c.in_err-purge.ensures.cut))

pub returns-clause-worn : goal.returns-clause-worn
returns-clause-worn g c =
    let pair = c.purge.new.self in
    subst (λ (s : FlashStore). worn_with pair.front (g.B.FlashBank.bank pair.live) (g.B.FlashBank.bank pair.spare) ≤ s.worn) c.self.view_is
    (with_same pair.next c.self.inside.pair.front pair.front (g.B.FlashBank.bank c.self.inside.pair.live) (g.B.FlashBank.bank c.self.inside.pair.spare)
    (g.B.FlashBank.bank pair.live)
    (g.B.FlashBank.bank pair.spare) c.in_ok-purge.ensures.ready c.in_ok-purge.ensures.worn)
