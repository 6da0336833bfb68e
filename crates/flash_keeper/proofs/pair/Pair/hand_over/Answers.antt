use Rattle.std.proofs.Common.{true, sym, subst}
use Rattle.flash_keeper.specs.Flash.{Programs}
use Rattle.flash_keeper.proofs.pair.Pair.hand_over.Goals as goal

pub returns-clause-spare : goal.returns-clause-spare
returns-clause-spare g c = subst (λ b. Programs 0 0 true (g.B.FlashBank.bank c.args.self.now.live) (g.B.FlashBank.bank b)) (sym c.swap.ensures.y_after)
    c.in_ok-retire.ensures.programs
