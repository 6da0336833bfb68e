use Rattle.std.proofs.Common.{◌∙◌, ap, ◌+◌, ◌≤◌, subst}
use Rattle.std.specs.FinMap.{insert}
use Rattle.flash_keeper.specs.Banks.{FlashStore}
use Rattle.flash_keeper.proofs.KeeperLemmas.{nothing_else}
use Rattle.flash_keeper.specs.Wear.{worn_with}
use Rattle.flash_keeper.proofs.Outcomes.{on_err}
use Rattle.flash_keeper.proofs.MeasureLemmas.{with_cut, with_same}
use Rattle.flash_keeper.proofs.keeper.FlashKeeper.write.Goals as goal

pub returns-clause-left : goal.returns-clause-left
returns-clause-left g c =
    nothing_else _ _ _ _ c.in_ok-put.ensures.ready ∙ c.in_ok-put.ensures.records
    ∙ ap (λ (s : FlashStore). insert s.store.records c.args.slot c.args.octets.now) c.self.view_is

pub returns-in_err-put-clause-cut : goal.returns-in_err-put-clause-cut
returns-in_err-put-clause-cut g c =
    let pair = c.put.new.self in
    on_err c.from_residual.result (subst (λ (s : FlashStore). worn_with pair.front (g.B.FlashBank.bank pair.live) (g.B.FlashBank.bank pair.spare) ≤ s.worn + 1)
    c.self.view_is
    (with_cut c.self.inside.pair.front pair.front (g.B.FlashBank.bank c.self.inside.pair.live) (g.B.FlashBank.bank c.self.inside.pair.spare)
    (g.B.FlashBank.bank pair.live)
    (g.B.FlashBank.bank pair.spare) c.in_err-put.ensures.cut))

pub returns-clause-worn : goal.returns-clause-worn
returns-clause-worn g c =
    let pair = c.put.new.self in
    subst (λ (s : FlashStore). worn_with pair.front (g.B.FlashBank.bank pair.live) (g.B.FlashBank.bank pair.spare) ≤ s.worn) c.self.view_is
    (with_same pair.next c.self.inside.pair.front pair.front (g.B.FlashBank.bank c.self.inside.pair.live) (g.B.FlashBank.bank c.self.inside.pair.spare)
    (g.B.FlashBank.bank pair.live)
    (g.B.FlashBank.bank pair.spare) c.in_ok-put.ensures.ready c.in_ok-put.ensures.worn)
