-- An item that was not read whole: its octets end before there are as many as its head says, or a read failed.
use Rattle.std.proofs.Common.{◌≡◌, ℕ, Bool, true, false, List, ◌++◌, length, Ok, Err, arith, length-append}
use Rattle.std.proofs.KnownBytes.{Consumes-trans}
use Rattle.plc_base.specs.declared.streams.Failed.{Failed}
use Rattle.plc_base.specs.Streams.{SourceState, SourceFaults}
use Rattle.host_calls.specs.ItemReader.{IsFilled, IsTorn, HasFailed}

pub torn : (first middle last : SourceState) (head octets : List ℕ) (count : ℕ) (whole more : Bool) → IsFilled first middle 3 head (Ok whole) → whole ≡ true
    → IsFilled middle last count octets (Ok more) → more ≡ false → IsTorn first last
torn first middle last head octets count true false h e k f = record {
  front = head ++ octets;
  consumed = Consumes-trans first.left middle.left last.left head octets h.0 k.0;
  over = k.2;
  some = let three : length head ≡ 3 = h.1 in omega (arith, length-append head octets);
}
torn first middle last head octets count true true h e k f = absurd (cc)
torn first middle last head octets count false more h e k f = absurd (cc)

pub failed_within : (first middle last : SourceState) (head octets : List ℕ) (count : ℕ) (whole : Bool) (failed : Failed)
    → IsFilled first middle 3 head (Ok whole) → whole ≡ true → SourceFaults first middle → IsFilled middle last count octets (Err failed)
    → HasFailed first last
failed_within first middle last head octets count true failed h e f k = record {
  front = head ++ octets;
  consumed = Consumes-trans first.left middle.left last.left head octets h.0 k.0;
  rose = let later = f.later in let rose = k.2 in omega (arith, later, rose);
}
failed_within first middle last head octets count false failed h e f k = absurd (cc)
