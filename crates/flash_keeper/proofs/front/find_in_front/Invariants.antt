use Rattle.std.proofs.Common.{◌≡◌, ◌≤◌, ◌-◌, None}
use Rattle.std.specs.FinMap as map
use Rattle.flash_keeper.specs.Front.{front_place, front_records}
use Rattle.flash_keeper.proofs.front.find_in_front.Given as goal

abbrev pub invariant-loop-i : goal.invariant-loop-i
invariant-loop-i g l =
    let words = (g.B.FlashBank.bank l.bank).words in
    record {
      place : l.at ≡ front_place words l.i;
      none : map.get (front_records words l.i) l.slot ≡ None;
      below : l.i ≤ l.front.count;
    }

abbrev pub decreases-loop-i : goal.decreases-loop-i
decreases-loop-i g l = l.front.count - l.i
