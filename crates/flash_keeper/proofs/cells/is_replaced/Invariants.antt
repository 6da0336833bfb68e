use Rattle.std.proofs.Common.{◌≡◌, ◌≤◌, ◌-◌}
use Rattle.flash_keeper.specs.Log.{holds_later}
use Rattle.flash_keeper.proofs.cells.is_replaced.Given as goal

abbrev pub invariant-loop-later : goal.invariant-loop-later
invariant-loop-later g l =
    let words = (g.B.FlashBank.bank l.bank).words in
    record {
      same : holds_later l.front words l.from (l.cells - l.from) l.slot ≡ holds_later l.front words l.later (l.cells - l.later) l.slot;
      below : l.later ≤ l.cells;
    }

abbrev pub decreases-loop-later : goal.decreases-loop-later
decreases-loop-later g l = l.cells - l.later
