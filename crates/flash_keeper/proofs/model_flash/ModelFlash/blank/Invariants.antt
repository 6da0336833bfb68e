use Rattle.std.proofs.Common.{◌≡◌, ◌<◌, ◌-◌, ℕ, false, Some, length}
use Rattle.flash_keeper.specs.Flash.{erased}
use Rattle.flash_keeper.specs.Model.{shown, counted}
use Rattle.flash_keeper.proofs.model_flash.ModelFlash.blank.Given as goal

abbrev pub invariant-loop-at : goal.invariant-loop-at
invariant-loop-at l = record {
  blank : (i : ℕ) → i < l.at → shown l.self.words.items i ≡ Some erased;
  fresh : (i : ℕ) → i < l.at → counted l.self.words.items i ≡ 0;
  size : length l.self.words.items ≡ length l.initial.self.words.items;
  torn : l.self.torn ≡ false;
}

abbrev pub decreases-loop-at : goal.decreases-loop-at
decreases-loop-at l = length l.self.words.items - l.at
