use Rattle.std.proofs.Common.{◌+◌, arith}
use Rattle.flash_keeper.proofs.OpeningLemmas.{true_is_false}
use Rattle.flash_keeper.proofs.cells.is_clean.Goals as goal

pub returns-then-not-reads_erased : goal.returns-then-not-reads_erased
returns-then-not-reads_erased g c =
    let at = c.place_of.result + c.loop-i.i in
    λ settled. absurd (true_is_false c.reads_erased.result (c.reads_erased.ensures (settled.blank at (omega (arith, c.place_of.ensures))))
    c.if-not-reads_erased.true)
