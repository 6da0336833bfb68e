use Rattle.std.proofs.Common.{◌+◌, ◌≤◌, subst}
use Rattle.flash_keeper.specs.Wear.{worn_with}
use Rattle.flash_keeper.specs.Banks.{FlashStore}
use Rattle.flash_keeper.proofs.MeasureLemmas.{with_adds}
use Rattle.flash_keeper.proofs.keeper.FlashKeeper.reopen.Goals as goal

pub returns-then-has_decayed-clause-fault : goal.returns-then-has_decayed-clause-fault
returns-then-has_decayed-clause-fault g c = absurd (c.has_decayed.ensures.left c.if-has_decayed.true _ _ _ c.self.invariant.held.left.log)

pub returns-then-has_decayed-clause-among : goal.returns-then-has_decayed-clause-among
returns-then-has_decayed-clause-among g c = absurd (c.has_decayed.ensures.left c.if-has_decayed.true _ _ _ c.self.invariant.held.left.log)

pub invariant_of-self : goal.invariant_of-self
invariant_of-self g c = absurd (c.has_decayed.ensures.left c.if-has_decayed.true _ _ _ c.self.invariant.held.left.log)

pub returns-then-has_decayed-clause-worn : goal.returns-then-has_decayed-clause-worn
returns-then-has_decayed-clause-worn g c = absurd (c.has_decayed.ensures.left c.if-has_decayed.true _ _ _ c.self.invariant.held.left.log)

pub returns-in_default-clause-worn : goal.returns-in_default-clause-worn
returns-in_default-clause-worn g c =
    let pair = c.reopen.new.self in
    subst (λ (s : FlashStore). worn_with pair.front (g.B.FlashBank.bank pair.live) (g.B.FlashBank.bank pair.spare) ≤ s.worn + 2) c.self.view_is
    (with_adds 2 c.self.inside.pair.front pair.front (g.B.FlashBank.bank c.self.inside.pair.live) (g.B.FlashBank.bank c.self.inside.pair.spare)
    (g.B.FlashBank.bank pair.live)
    (g.B.FlashBank.bank pair.spare) c.reopen.ensures.twice)

pub returns-clause-worn : goal.returns-clause-worn
returns-clause-worn g c =
    let pair = c.reopen.new.self in
    subst (λ (s : FlashStore). worn_with pair.front (g.B.FlashBank.bank pair.live) (g.B.FlashBank.bank pair.spare) ≤ s.worn + 2) c.self.view_is
    (with_adds 2 c.self.inside.pair.front pair.front (g.B.FlashBank.bank c.self.inside.pair.live) (g.B.FlashBank.bank c.self.inside.pair.spare)
    (g.B.FlashBank.bank pair.live)
    (g.B.FlashBank.bank pair.spare) c.reopen.ensures.twice)
