use Rattle.std.proofs.Common.{◌≤◌, ◌<◌, ◌-◌, ℕ}
use Rattle.flash_keeper.specs.Log.{IsDecayedCell}
use Rattle.flash_keeper.proofs.cells.has_decayed_cell.Given as goal

abbrev pub invariant-loop-cell : goal.invariant-loop-cell
invariant-loop-cell g l =
    let bank = g.B.FlashBank.bank l.bank in
    record {
      fine : (k : ℕ) → k < l.cell → IsDecayedCell l.front bank.words k → ⊥;
      below : l.cell ≤ l.count;
    }

abbrev pub decreases-loop-cell : goal.decreases-loop-cell
decreases-loop-cell g l = l.count - l.cell
