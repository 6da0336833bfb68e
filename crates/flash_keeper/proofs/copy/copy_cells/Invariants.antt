use Rattle.std.proofs.Common.{◌≡◌, ◌≤◌, ◌+◌, ◌-◌, false}
use Rattle.flash_keeper.specs.Front.{front_records, IsGrowing}
use Rattle.flash_keeper.specs.Log.{kept, place, SameBelow}
use Rattle.flash_keeper.proofs.copy.copy_cells.Given as goal

abbrev pub invariant-loop-cell : goal.invariant-loop-cell
invariant-loop-cell g l =
    let from = (g.B.FlashBank.bank l.from).words in
    let old = g.B.FlashBank.bank l.initial.to in
    let new = g.B.FlashBank.bank l.to in
    record {
      growing : IsGrowing new l.next;
      records : front_records new.words l.next.count ≡ kept l.front from l.cells l.cell;
      room : 4 + l.next.words ≤ place l.front l.cell;
      heads : SameBelow 3 old new;
      firm : new.torn ≡ false;
      size : new.size ≡ old.size;
      below : l.cell ≤ l.cells;
    }

abbrev pub decreases-loop-cell : goal.decreases-loop-cell
decreases-loop-cell g l = l.cells - l.cell
