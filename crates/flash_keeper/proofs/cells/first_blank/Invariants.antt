use Rattle.std.proofs.Common.{◌≤◌, ◌+◌, ◌-◌, ℕ}
use Rattle.flash_keeper.specs.Log.{IsLeft, Choice}
use Rattle.flash_keeper.proofs.cells.first_blank.Given as goal

abbrev pub invariant-loop-cell : goal.invariant-loop-cell
invariant-loop-cell g l =
    let bank = g.B.FlashBank.bank l.bank in
    record {
      low : (n : ℕ) (c : Choice) → IsLeft l.front bank n c → l.cell ≤ n + 1;
      below : l.cell ≤ l.count;
    }

abbrev pub decreases-loop-cell : goal.decreases-loop-cell
decreases-loop-cell g l = l.count - l.cell
