use Rattle.std.proofs.Common.{◌∙◌, None, inr}
use Rattle.flash_keeper.proofs.KeeperLemmas.{nothing_else, purged_is}
use Rattle.flash_keeper.proofs.MeasureLemmas.{with_none}
use Rattle.flash_keeper.proofs.keeper.FlashKeeper.format.Goals as goal

pub returns-clause-ok : goal.returns-clause-ok
returns-clause-ok g c =
    let e = c.in-Ok.ensures.records in
    λ i. record { records = e i; pending = None; faults = 0; known_cut = None; listed = None }

pub returns-clause-left : goal.returns-clause-left
returns-clause-left g c = nothing_else _ _ _ _ c.in-Ok.ensures.ready ∙ c.in-Ok.ensures.records

pub returns-clause-purged : goal.returns-clause-purged
returns-clause-purged g c =
    let pair = c.format.new.self in
    purged_is (g.B.FlashBank.bank pair.spare) pair.next c.in-Ok.ensures.next c.in-Ok.ensures.blank

pub returns-clause-worn : goal.returns-clause-worn
returns-clause-worn g c =
    let pair = c.format.new.self in
    let blank = c.in-Ok.ensures.blank in
    with_none pair.front (g.B.FlashBank.bank pair.live) (g.B.FlashBank.bank pair.spare) c.in-Ok.ensures.worn (inr (blank.firm, blank.blank 2))
