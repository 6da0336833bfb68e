use Rattle.std.proofs.Common.{◌≡◌, ◌≤◌, ◌-◌, ℕ}
use Rattle.flash_keeper.specs.Front.{front_place, IsDecayedAt}
use Rattle.flash_keeper.proofs.FrontLemmas.{AreRight}
use Rattle.flash_keeper.proofs.front.front_of.Given as goal

abbrev pub invariant-loop-i : goal.invariant-loop-i
invariant-loop-i g l =
    let bank = g.B.FlashBank.bank l.bank in
    record {
      place : (n : ℕ) → AreRight bank n → l.i ≤ n → l.at ≡ front_place bank.words l.i;
      low : (n i : ℕ) → IsDecayedAt bank n i → l.i ≤ i;
      from : 4 ≤ l.at;
      within : l.at ≤ bank.size;
      below : l.i ≤ l.count;
    }

abbrev pub decreases-loop-i : goal.decreases-loop-i
decreases-loop-i g l = l.count - l.i
