-- A record in a bank: its head, a word with its check, its slot and its length, and the words of its octets.
use Rattle.std.specs.Prelude.{◌≡◌, ℕ, zero, suc, ◌<◌, ◌+◌, ◌/◌, ◌%◌, ◌^◌, ◌==◌, Bool, true, not, List, [], ◌++◌, take, Some, None}
use Rattle.byteorder.specs.Endian.{big_bytes}
use Rattle.flash_keeper.specs.Check.{check_of}
use Rattle.flash_keeper.specs.Flash.{Word, erased}

abbrev pub value : Word → ℕ
value (Some n) = n
value None = 0

-- a word that reads the same each time
abbrev pub IsFirm : Word → Type 0
IsFirm word = word ≡ Some (value word)

-- a word of which a program was begun
abbrev pub begun : Word → Bool
begun (Some n) = not (n == erased)
begun None = true

-- 65 times the slot and the length, the lower half of the head of the record at a place
abbrev pub low_at : (ℕ → Word) → ℕ → ℕ
low_at words at = value (words at) % 0x100000000

abbrev pub slot_at : (ℕ → Word) → ℕ → ℕ
slot_at words at = low_at words at / 65

abbrev pub length_at : (ℕ → Word) → ℕ → ℕ
length_at words at = low_at words at % 65

-- the octets of the n words from a place on
unfoldable pub octets_from : (ℕ → Word) → ℕ → ℕ → List ℕ
octets_from words at zero = []
octets_from words at (suc n) = octets_from words at n ++ big_bytes 8 (value (words (at + n)))

-- the octets of a record of n words beside its head, with those after its last one, which are erased
abbrev pub body_at : (ℕ → Word) → ℕ → ℕ → List ℕ
body_at words at n = octets_from words (at + 1) n

abbrev pub octets_at : (ℕ → Word) → ℕ → ℕ → List ℕ
octets_at words at n = take (length_at words at) (body_at words at n)

-- whether the check of a record, the upper half of its head, is that of its slot, its length and its octets
abbrev pub has_check : (ℕ → Word) → ℕ → ℕ → Bool
has_check words at n = value (words at) / 0x100000000 == check_of (low_at words at) (body_at words at n)

-- a record of which slot, length and octets read the same each time
pub record IsReadable (words : ℕ → Word) (at n : ℕ) : Type 0 where
  pub head : IsFirm (words at)
  pub body : (i : ℕ) → i < n → IsFirm (words (at + 1 + i))

-- a record that reads the same each time, with its check
pub record IsWhole (words : ℕ → Word) (at n : ℕ) : Type 0 where
  pub readable : IsReadable words at n
  pub more : 0 < slot_at words at
  pub slot : slot_at words at < 2 ^ 16
  pub check : has_check words at n ≡ true

-- at a place this record of this slot stands
pub record HasRecord (words : ℕ → Word) (at n slot : ℕ) (octets : List ℕ) : Type 0 where
  pub whole : IsWhole words at n
  pub slot_is : slot_at words at ≡ slot
  pub octets_is : octets_at words at n ≡ octets
