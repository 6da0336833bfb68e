use Rattle.std.proofs.Common.{subst}
use Rattle.flash_keeper.specs.Log.{IsLeft}
use Rattle.flash_keeper.specs.Banks.{FlashStore}
use Rattle.flash_keeper.proofs.keeper.FlashKeeper.live.Goals as goal

pub returns-clause-log : goal.returns-clause-log
returns-clause-log g c =
    let live = g.B.FlashBank.bank c.self.inside.pair.live in (
      c.self.inside.pair.front,
      c.self.inside.pair.next,
      subst (λ (s : FlashStore). IsLeft c.self.inside.pair.front live c.self.inside.pair.next (record { old = s.store.records; new = s.left })) c.self.view_is
          c.self.invariant.held.left.log,
    )
