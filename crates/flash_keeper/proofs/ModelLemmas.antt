-- What a bank in memory shows after one word of it has changed.
use Rattle.std.proofs.Common.{◌≡◌, ◌∙◌, ℕ, zero, suc, ◌<◌, ◌≤◌, Bool, true, false, if◌then◌else◌, List, [], ◌∷◌, Option, Some, None, length, set, get_or}
use Rattle.std.proofs.Common.{refl, sym, ap, arith}
use Rattle.flash_keeper.specs.Flash.{erased, head_word, Reads}
use Rattle.flash_keeper.specs.Model.{word_of, shown, counted, bank_of}
use Rattle.flash_keeper.specs.declared.model_flash.ModelWord.{ModelWord}

pub shown_set : (words : List ModelWord) (k : ℕ) (word : ModelWord) → k < length words → shown (set words k word) k ≡ word_of word
unfolding shown
shown_set [] k word h = absurd (omega (arith, h))
shown_set (old ∷ words) zero word h = refl
shown_set (old ∷ words) (suc k) word h = shown_set words k word (omega (arith, h))

pub shown_other : (words : List ModelWord) (k i : ℕ) (word : ModelWord) → (i ≡ k → ⊥) → shown (set words k word) i ≡ shown words i
unfolding shown
shown_other [] k i word h = refl
shown_other (old ∷ words) zero zero word h = absurd (h refl)
shown_other (old ∷ words) zero (suc i) word h = refl
shown_other (old ∷ words) (suc k) zero word h = refl
shown_other (old ∷ words) (suc k) (suc i) word h = shown_other words k i word (λ e. h (omega (arith, e)))

pub shown_read : (words : List ModelWord) (k : ℕ) (other : ModelWord) → k < length words → shown words k ≡ word_of (get_or words k other)
unfolding shown
shown_read [] k other h = absurd (omega (arith, h))
shown_read (word ∷ words) zero other h = refl
shown_read (word ∷ words) (suc k) other h = shown_read words k other (omega (arith, h))

pub shown_past : (words : List ModelWord) (k : ℕ) → length words ≤ k → shown words k ≡ Some erased
unfolding shown
shown_past [] k h = refl
shown_past (word ∷ words) zero h = absurd (omega (arith, h))
shown_past (word ∷ words) (suc k) h = shown_past words k (omega (arith, h))

-- and how often a word was programmed
pub counted_set : (words : List ModelWord) (k : ℕ) (word : ModelWord) → k < length words → counted (set words k word) k ≡ word.programs
unfolding counted
counted_set [] k word h = absurd (omega (arith, h))
counted_set (old ∷ words) zero word h = refl
counted_set (old ∷ words) (suc k) word h = counted_set words k word (omega (arith, h))

pub counted_other : (words : List ModelWord) (k i : ℕ) (word : ModelWord) → (i ≡ k → ⊥) → counted (set words k word) i ≡ counted words i
unfolding counted
counted_other [] k i word h = refl
counted_other (old ∷ words) zero zero word h = absurd (h refl)
counted_other (old ∷ words) zero (suc i) word h = refl
counted_other (old ∷ words) (suc k) zero word h = refl
counted_other (old ∷ words) (suc k) (suc i) word h = counted_other words k i word (λ e. h (omega (arith, e)))

pub counted_read : (words : List ModelWord) (k : ℕ) (other : ModelWord) → k < length words → counted words k ≡ (get_or words k other).programs
unfolding counted
counted_read [] k other h = absurd (omega (arith, h))
counted_read (word ∷ words) zero other h = refl
counted_read (word ∷ words) (suc k) other h = counted_read words k other (omega (arith, h))

pub counted_past : (words : List ModelWord) (k : ℕ) → length words ≤ k → counted words k ≡ 0
unfolding counted
counted_past [] k h = refl
counted_past (word ∷ words) zero h = absurd (omega (arith, h))
counted_past (word ∷ words) (suc k) h = counted_past words k (omega (arith, h))

true_is_false : (b : Bool) → b ≡ true → b ≡ false → ⊥
true_is_false true e f = cc
true_is_false false e f = cc

none_or : (b : Bool) (n m : ℕ) → b ≡ true → (if b then None else Some n) ≡ Some m → ⊥
none_or true n m e h = cc
none_or false n m e h = cc

some_or : (b : Bool) (n m : ℕ) → b ≡ false → (if b then None else Some n) ≡ Some m → n ≡ m
some_or true n m e h = cc
some_or false n m e h = ap (λ (o : Option ℕ). number o) h
  where
    number : Option ℕ → ℕ
    number (Some k) = k
    number None = 0

-- a torn word may read as anything
pub reads_torn : (words : List ModelWord) (at shows : ℕ) (t : Bool) (w : ModelWord) → at < length words → w ≡ get_or words at w → w.torn ≡ true
    → Reads (bank_of words t) at shows
reads_torn words at shows t w within here torn = record {
  firm = λ f n is. absurd (none_or w.torn w.value n torn (ap word_of here ∙ sym (shown_read words at w within) ∙ is));
  from_zero = λ t is e. absurd (none_or w.torn w.value 0 torn (ap word_of here ∙ sym (shown_read words at w within) ∙ is));
}

-- and so may a word of a torn bank, unless it was 0
pub reads_torn_bank : (words : List ModelWord) (at shows : ℕ) (t : Bool) (w : ModelWord) → at < length words → w ≡ get_or words at w → t ≡ true
    → w.torn ≡ false → (w.value ≡ 0 → shows ≡ head_word → ⊥) → Reads (bank_of words t) at shows
reads_torn_bank words at shows t w within here torn whole none = record {
  firm = λ f. absurd (true_is_false t torn f);
  from_zero = λ t is e. none (some_or w.torn w.value 0 whole (ap word_of here ∙ sym (shown_read words at w within) ∙ is)) e;
}

-- one that is whole as what it is
pub reads_whole : (words : List ModelWord) (at : ℕ) (t : Bool) (w : ModelWord) → t ≡ false → at < length words → w ≡ get_or words at w → w.torn ≡ false
    → Reads (bank_of words t) at w.value
reads_whole words at t w whole within here firm = record {
  firm = λ f n is. some_or w.torn w.value n firm (ap word_of here ∙ sym (shown_read words at w within) ∙ is);
  from_zero = λ torn is e. absurd (true_is_false t torn whole);
}
