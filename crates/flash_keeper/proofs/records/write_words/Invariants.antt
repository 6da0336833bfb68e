use Rattle.std.proofs.Common.{◌≡◌, ◌≤◌, ◌<◌, ◌+◌, ◌*◌, ◌-◌, false, ℕ, take}
use Rattle.flash_keeper.specs.Log.{SameOutside}
use Rattle.flash_keeper.specs.Records.{octets_from, IsFirm}
use Rattle.flash_keeper.specs.Wear.{Counts}
use Rattle.flash_keeper.proofs.records.write_words.Given as goal

abbrev pub invariant-loop-i : goal.invariant-loop-i
invariant-loop-i g l =
    let old = g.B.FlashBank.bank l.initial.bank in
    let new = g.B.FlashBank.bank l.bank in
    record {
      firm : new.torn ≡ false;
      size : new.size ≡ old.size;
      same : SameOutside (l.at + 1) (l.at + 1 + l.i) old new;
      counts : Counts (l.at + 1) (l.at + 1 + l.i) old new;
      octets : octets_from new.words (l.at + 1) l.i ≡ take (8 * l.i) l.octets;
      body : (j : ℕ) → j < l.i → IsFirm (new.words (l.at + 1 + j));
      below : l.i ≤ l.words;
    }

abbrev pub decreases-loop-i : goal.decreases-loop-i
decreases-loop-i g l = l.words - l.i
