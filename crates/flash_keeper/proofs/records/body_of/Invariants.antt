use Rattle.std.proofs.Common.{◌≡◌, ◌≤◌, ◌+◌, ◌*◌, ◌-◌, length}
use Rattle.flash_keeper.specs.Records.{octets_from, IsReadable}
use Rattle.flash_keeper.proofs.records.body_of.Given as goal

abbrev pub invariant-loop-i : goal.invariant-loop-i
invariant-loop-i g l =
    let words = (g.B.FlashBank.bank l.bank).words in
    record {
      octets : IsReadable words l.at l.words → l.octets ≡ octets_from words (l.at + 1) l.i;
      length : length l.octets ≡ 8 * l.i;
      below : l.i ≤ l.words;
    }

abbrev pub decreases-loop-i : goal.decreases-loop-i
decreases-loop-i g l = l.words - l.i
