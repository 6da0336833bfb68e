use Rattle.std.proofs.Common.{◌≡◌, true, subst, ◌≤◌}
use Rattle.flash_keeper.specs.Banks.{FlashStore, ArePurged}
use Rattle.flash_keeper.proofs.KeeperLemmas.{purged_banks}
use Rattle.flash_keeper.specs.Wear.{worn_of, worn_with, AreProgrammed}
use Rattle.flash_keeper.specs.declared.front.Front.{Front}
use Rattle.flash_keeper.proofs.FrontLemmas.{front_in_is}
use Rattle.flash_keeper.proofs.MeasureLemmas.{of_with, are_programmed}
use Rattle.flash_keeper.proofs.keeper.FlashKeeper.into_banks.Goals as goal

pub returns-clause-purged : goal.returns-clause-purged
returns-clause-purged g c =
    let live = g.B.FlashBank.bank c.self.inside.pair.live in
    let spare = g.B.FlashBank.bank c.self.inside.pair.spare in
    subst (λ (s : FlashStore). s.purged ≡ true → ArePurged live spare s.store.records) c.self.view_is
    (purged_banks c.self.inside.pair.front live spare c.self.inside.pair.next _ c.self.invariant.held.left.log)

pub returns-clause-worn : goal.returns-clause-worn
returns-clause-worn g c =
    let live = g.B.FlashBank.bank c.self.inside.pair.live in
    let spare = g.B.FlashBank.bank c.self.inside.pair.spare in
    let front_is = front_in_is live c.self.inside.pair.front c.self.invariant.held.left.log.has_front in
    subst (λ (s : FlashStore). worn_of live spare ≤ s.worn) c.self.view_is
    (subst (λ (h : Front). worn_of live spare ≤ worn_with h live spare) front_is (of_with live spare))

pub returns-clause-programs : goal.returns-clause-programs
returns-clause-programs g c =
    let live = g.B.FlashBank.bank c.self.inside.pair.live in
    let spare = g.B.FlashBank.bank c.self.inside.pair.spare in
    subst (λ (s : FlashStore). AreProgrammed s.worn live × AreProgrammed s.worn spare) c.self.view_is
    (are_programmed c.self.inside.pair.front live spare)
