use Rattle.std.proofs.Common.{◌≡◌, ◌≤◌}
use Rattle.std.specs.FinMap as map
use Rattle.flash_keeper.specs.Log.{upto}
use Rattle.flash_keeper.proofs.cells.find.Given as goal

abbrev pub invariant-loop-cell : goal.invariant-loop-cell
invariant-loop-cell g l =
    let words = (g.B.FlashBank.bank l.bank).words in
    record {
      same : map.get (upto l.front words l.cells) l.slot ≡ map.get (upto l.front words l.cell) l.slot;
      below : l.cell ≤ l.cells;
    }

abbrev pub decreases-loop-cell : goal.decreases-loop-cell
decreases-loop-cell g l = l.cell
