use Rattle.std.proofs.Common.{◌≡◌, ◌≤◌, ◌+◌, ◌-◌, false}
use Rattle.flash_keeper.specs.Front.{front_place, front_records, IsGrowing}
use Rattle.flash_keeper.specs.Log.{front_kept, SameBelow}
use Rattle.flash_keeper.proofs.copy.copy_front.Given as goal

abbrev pub invariant-loop-i : goal.invariant-loop-i
invariant-loop-i g l =
    let from = (g.B.FlashBank.bank l.from).words in
    let old = g.B.FlashBank.bank l.initial.to in
    let new = g.B.FlashBank.bank l.to in
    record {
      growing : IsGrowing new l.next;
      records : front_records new.words l.next.count ≡ front_kept l.front from l.cells l.i;
      place : l.at ≡ front_place from l.i;
      room : 4 + l.next.words ≤ l.at;
      heads : SameBelow 3 old new;
      firm : new.torn ≡ false;
      size : new.size ≡ old.size;
      below : l.i ≤ l.front.count;
    }

abbrev pub decreases-loop-i : goal.decreases-loop-i
decreases-loop-i g l = l.front.count - l.i
