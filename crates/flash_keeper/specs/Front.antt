-- The front of a bank: records that a copy wrote, before the cells of the log. The mark of the bank makes all of them count.
use Rattle.std.specs.Prelude.{◌≡◌, ◌⊎◌, ℕ, zero, suc, ◌≤◌, ◌<◌, ◌+◌, ◌-◌, ◌*◌, ◌/◌, ◌%◌, ◌^◌, ◌==◌, true, false, List, [], Some, None}
use Rattle.std.specs.FinMap.{insert, empty, get}
use Rattle.plc_base.specs.Keeper.{Records}
use Rattle.flash_keeper.specs.Check.{check_of}
use Rattle.flash_keeper.specs.Flash.{Word, Bank, erased}
use Rattle.flash_keeper.specs.Records.{value, length_at, slot_at, octets_at, has_check, IsReadable, IsWhole}
use Rattle.flash_keeper.specs.declared.front.Front.{Front}

-- how many words the octets of a record take in a front: as many as they need
abbrev pub words_of : ℕ → ℕ
words_of length = (length + 7) / 8

-- A front begins after four words of its bank, and each record of it where the one before it ends.
unfoldable pub front_place : (ℕ → Word) → ℕ → ℕ
front_place words zero = 4
front_place words (suc i) = front_place words i + 1 + words_of (length_at words (front_place words i))

abbrev pub front_slot : (ℕ → Word) → ℕ → ℕ
front_slot words i = slot_at words (front_place words i)

-- how many words the octets of one of its records take
abbrev pub front_words : (ℕ → Word) → ℕ → ℕ
front_words words i = words_of (length_at words (front_place words i))

abbrev pub front_octets : (ℕ → Word) → ℕ → List ℕ
front_octets words i = octets_at words (front_place words i) (front_words words i)

-- a front without a record
abbrev pub no_front : Front
no_front = record { count = 0; words = 0 }

-- what its first records stand for
unfoldable pub front_records : (ℕ → Word) → ℕ → Records
front_records words zero = empty
front_records words (suc i) = insert (front_records words i) (front_slot words i) (front_octets words i)

-- a whole record, of a slot that none before it has
pub record IsInFront (words : ℕ → Word) (i : ℕ) : Type 0 where
  pub whole : IsWhole words (front_place words i) (front_words words i)
  pub apart : get (front_records words i) (front_slot words i) ≡ None

-- so many records, which take so many words
pub record AreInFront (words : ℕ → Word) (front : Front) : Type 0 where
  pub each : (i : ℕ) → i < front.count → IsInFront words i
  pub end : front_place words front.count ≡ 4 + front.words

-- The fourth word of a bank: the number of records of its front, with a check.
abbrev pub number_word : ℕ → ℕ
number_word n = check_of n [] * 0x100000000 + n

-- the front that the words of a bank say that it has
unfoldable pub front_in : Bank → Front
front_in bank =
    let count = value (bank.words 3) % 0x100000000 in
    record { count = count; words = front_place bank.words count - 4 }

-- a front of a bank, with its number
pub record HasFront (bank : Bank) (front : Front) : Type 0 where
  pub records : AreInFront bank.words front
  pub number : bank.words 3 ≡ Some (number_word front.count)
  pub few : front.count < 2 ^ 32
  pub within : 4 + front.words ≤ bank.size

-- A front that is written, record by record: nothing stands behind it yet, nor the number of its records.
pub record IsGrowing (bank : Bank) (front : Front) : Type 0 where
  pub firm : bank.torn ≡ false
  pub records : AreInFront bank.words front
  pub few : front.count ≤ front.words
  pub within : 4 + front.words ≤ bank.size
  pub number : bank.words 3 ≡ Some erased
  pub blank : (i : ℕ) → 4 + front.words ≤ i → bank.words i ≡ Some erased
  -- how often its words were programmed since its erase: once at most, and those of the mark, of that number and behind the front never
  pub once : (i : ℕ) → bank.programs i ≤ 1
  pub unmarked : bank.programs 2 ≡ 0
  pub unnumbered : bank.programs 3 ≡ 0
  pub unused : (i : ℕ) → 4 + front.words ≤ i → bank.programs i ≡ 0

-- A bank to which so much was copied after its erase, and which has no mark yet.
pub record IsFresh (front : Front) (bank : Bank) : Type 0 where
  pub once : (i : ℕ) → bank.programs i ≤ 1
  pub mark : bank.programs 2 ≡ 0
  pub rest : (i : ℕ) → 4 + front.words ≤ i → bank.programs i ≡ 0

-- A front of which bits have changed by themselves: its number has another check, or one of its records, after others that are right.
pub record IsDecayedNumber (bank : Bank) (word : ℕ) : Type 0 where
  pub number : bank.words 3 ≡ Some word
  pub check : (word / 0x100000000 == check_of (word % 0x100000000) []) ≡ false

pub record IsDecayedAt (bank : Bank) (count i : ℕ) : Type 0 where
  pub number : bank.words 3 ≡ Some (number_word count)
  pub few : count < 2 ^ 32
  pub less : i < count
  pub within : front_place bank.words (i + 1) ≤ bank.size
  pub readable : (j : ℕ) → j ≤ i → IsReadable bank.words (front_place bank.words j) (front_words bank.words j)
  pub before : (j : ℕ) → j < i → has_check bank.words (front_place bank.words j) (front_words bank.words j) ≡ true
  pub decayed : has_check bank.words (front_place bank.words i) (front_words bank.words i) ≡ false

abbrev pub IsDecayedFront : Bank → Type 0
IsDecayedFront bank = ((word : ℕ) × IsDecayedNumber bank word) ⊎ ((count : ℕ) × (i : ℕ) × IsDecayedAt bank count i)
