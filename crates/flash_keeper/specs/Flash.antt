-- A bank of NOR flash: its words, what a reading of one may show, and what a program and an erase leave, also where power failed in them.
use Rattle.std.specs.Prelude.{◌≡◌, ◌⊎◌, ◌≤◌, ◌+◌, ◌/◌, ◌%◌, ◌==◌, ℕ, Bool, true, false, Option, Some, None, if◌then◌else◌}

-- What a word reads as. None after a program of it was cut short: it then reads as anything, at each reading anew.
abbrev pub Word : Type 0
Word = Option ℕ

-- a word of which each bit is 1
abbrev pub erased : ℕ
erased = 0xFFFFFFFFFFFFFFFF

-- the first word of a bank with a store of this layout: a name, and the number 4 of the layout
abbrev pub head_word : ℕ
head_word = 0x464C4B4545500004

-- the number of the layout that the first word of a bank names: the lowest 16 bits of it, where the others are those of a head
abbrev pub layout_in : ℕ → Option ℕ
layout_in word = if word / 65536 == head_word / 65536 then Some (word % 65536) else None

-- A bank. torn: an erase of it was cut short and none was done since. Its words are then what they were when that erase began, or what was
-- programmed since. But each bit that is 0 rises to 1 at a moment of its own in an erase, so each word reads as anything, anew each time.
pub record Bank : Type 0 where
  -- how many words it has
  pub size : ℕ
  pub torn : Bool
  -- what is at each place; nothing was ever programmed at a place from size on
  pub words : ℕ → Word
  -- how often the word at each place was programmed since the bank was erased
  pub programs : ℕ → ℕ

-- What a reading of the word at a place shows.
pub record Reads (bank : Bank) (at word : ℕ) : Type 0 where
  pub firm : bank.torn ≡ false → (n : ℕ) → bank.words at ≡ Some n → word ≡ n
  -- The premise on torn erases: a word that was 0 when the erase began does not read as the head of a store. To do so, of its 64 bits the
  -- 20 that are 1 in the head would have to rise before each of the other 44: one order in 1.9 * 10^16, if each bit rises at a moment of its own.
  pub from_zero : bank.torn ≡ true → bank.words at ≡ Some 0 → word ≡ head_word → ⊥

-- A word may be programmed where it is erased; to 0, so that each bit is programmed, in any state, also after a torn erase.
abbrev pub MayProgram : Bank → ℕ → ℕ → Type 0
MayProgram bank at word = (word ≡ 0) ⊎ ((bank.torn ≡ false) × (bank.words at ≡ Some erased))

-- A program of a word, which was done or cut short.
pub record Programs (at word : ℕ) (ok : Bool) (old new : Bank) : Type 0 where
  pub done : ok ≡ true → new.words at ≡ Some word
  -- bits that are as they are to be do not change, even where it was cut short
  pub kept : old.words at ≡ Some word → new.words at ≡ Some word
  pub others : (i : ℕ) → (i ≡ at → ⊥) → new.words i ≡ old.words i
  pub torn : new.torn ≡ old.torn
  pub size : new.size ≡ old.size
  -- it counts once; where it did not begin, it need not
  pub once : new.programs at ≤ old.programs at + 1
  pub uncounted : (i : ℕ) → (i ≡ at → ⊥) → new.programs i ≡ old.programs i

-- An erase of a bank, which was done, also where it did not answer so, was cut short, or did not begin.
pub record Erases (ok : Bool) (old new : Bank) : Type 0 where
  pub whole : ok ≡ true → new.torn ≡ false
  pub blank : ok ≡ true → (i : ℕ) → new.words i ≡ Some erased
  pub fresh : ok ≡ true → (i : ℕ) → new.programs i ≡ 0
  pub cut : ok ≡ false
      → (new ≡ old) ⊎ ((new.torn ≡ true) × (new.words ≡ old.words) × (new.programs ≡ old.programs))
      ⊎ ((new.torn ≡ false) × ((i : ℕ) → new.words i ≡ Some erased) × ((i : ℕ) → new.programs i ≡ 0))
  pub size : new.size ≡ old.size

-- A bank of which each word is erased, and reads so each time, and none was programmed since.
pub record IsBlank (bank : Bank) : Type 0 where
  pub firm : bank.torn ≡ false
  pub blank : (i : ℕ) → bank.words i ≡ Some erased
  pub fresh : (i : ℕ) → bank.programs i ≡ 0
