-- The log in a bank: cells of words behind the front, what makes a cell count, and the records that the front and the first cells stand for.
use Rattle.std.specs.Prelude.{◌≡◌, ◌⊎◌, ℕ, zero, suc, ◌≤◌, ◌<◌, ◌+◌, ◌*◌, ◌/◌, ◌-◌, ◌==◌, Bool, true, false, not, ◌&&◌, ◌||◌, if◌then◌else◌, List, Some}
use Rattle.std.specs.FinMap.{insert, empty}
use Rattle.plc_base.specs.Keeper.{Records}
use Rattle.flash_keeper.specs.Flash.{Word, Bank, erased}
use Rattle.flash_keeper.specs.Records.{slot_at, octets_at, has_check, begun, IsReadable, IsWhole}
use Rattle.flash_keeper.specs.Front.{front_slot, front_octets, front_records, HasFront, IsDecayedFront}
use Rattle.flash_keeper.specs.declared.front.Front.{Front}

-- A bank begins with four words: its head, its generation, the mark that makes it count, and the number of the records of its front. Then comes
-- the front, and then cells of 12 words: the head of a record, 8 of its octets, the close, which says that the cell never counts, the fence, which
-- says that the record is whole, and the mark, which makes it count.
abbrev pub place : Front → ℕ → ℕ
place front k = 4 + front.words + 12 * k

abbrev pub close : Front → ℕ → ℕ
close front k = 4 + front.words + 12 * k + 9

abbrev pub fence : Front → ℕ → ℕ
fence front k = 4 + front.words + 12 * k + 10

abbrev pub mark : Front → ℕ → ℕ
mark front k = 4 + front.words + 12 * k + 11

-- how many cells a bank of this many words has
abbrev pub room : Front → ℕ → ℕ
room front size = (size - (4 + front.words)) / 12

abbrev pub cell_slot : Front → (ℕ → Word) → ℕ → ℕ
cell_slot front words k = slot_at words (place front k)

abbrev pub cell_octets : Front → (ℕ → Word) → ℕ → List ℕ
cell_octets front words k = octets_at words (place front k) 8

-- whether each of the first n words is erased
unfoldable pub are_erased : (ℕ → Word) → ℕ → Bool
are_erased words zero = true
are_erased words (suc n) = are_erased words n && not (begun (words n))

-- whether each word of a bank is erased, and reads so each time
abbrev pub is_erased : Bank → Bool
is_erased bank = not bank.torn && are_erased bank.words bank.size

-- a cell counts where the program of its mark was begun
abbrev pub counts : Front → (ℕ → Word) → ℕ → Bool
counts front words k = begun (words (mark front k))

abbrev pub step : Front → (ℕ → Word) → ℕ → Records → Records
step front words k records = if counts front words k then insert records (cell_slot front words k) (cell_octets front words k) else records

-- the records that the front and the first k cells stand for
unfoldable pub upto : Front → (ℕ → Word) → ℕ → Records
upto front words zero = front_records words front.count
upto front words (suc k) = step front words k (upto front words k)

-- a cell has a record that reads the same each time
abbrev pub IsWholeCell : Front → (ℕ → Word) → ℕ → Type 0
IsWholeCell front words k = IsWhole words (place front k) 8

-- a cell that is certain: its mark is whole and so is its record, or it is closed and its mark was not begun
abbrev pub IsCertain : Front → (ℕ → Word) → ℕ → Type 0
IsCertain front words k =
    ((words (mark front k) ≡ Some 0) × IsWholeCell front words k) ⊎ ((words (mark front k) ≡ Some erased) × (words (close front k) ≡ Some 0))

-- a cell that counts and of which bits have changed by themselves: its check is not that of its slot, its length and its octets
pub record IsDecayedCell (front : Front) (words : ℕ → Word) (k : ℕ) : Type 0 where
  pub mark : words (mark front k) ≡ Some 0
  pub readable : IsReadable words (place front k) 8
  pub check : has_check words (place front k) 8 ≡ false

-- a bank of which bits have changed by themselves: its front has decayed, or behind a whole one a cell
abbrev pub HasDecayed : Bank → Type 0
HasDecayed bank = IsDecayedFront bank
    ⊎ ((front : Front) × (k : ℕ) × HasFront bank front × (k < room front bank.size) × IsDecayedCell front bank.words k)

abbrev pub AreCertain : Front → (ℕ → Word) → ℕ → Type 0
AreCertain front words n = (k : ℕ) → k < n → IsCertain front words k

-- What may be found in the cell that is written: neither its fence nor its mark was begun; or its record is whole, and its mark was not begun, or
-- its fence is whole.
abbrev pub IsOpen : Front → (ℕ → Word) → ℕ → Type 0
IsOpen front words k =
    ((words (fence front k) ≡ Some erased) × (words (mark front k) ≡ Some erased))
    ⊎ (IsWholeCell front words k × ((words (mark front k) ≡ Some erased) ⊎ (words (fence front k) ≡ Some 0)))

-- the records of the first n cells, with that of the next one if its fence was begun
abbrev pub upto_fence : Front → (ℕ → Word) → ℕ → Records
upto_fence front words n =
    if begun (words (fence front n)) then insert (upto front words n) (cell_slot front words n) (cell_octets front words n) else upto front words n

abbrev pub IsBlankFrom : (ℕ → Word) → ℕ → Type 0
IsBlankFrom words at = (i : ℕ) → at ≤ i → words i ≡ Some erased

-- two records of which one is meant, and which is open
pub record Choice : Type 0 where
  pub old : Records
  pub new : Records

abbrev pub IsOneOf : Choice → Records → Type 0
IsOneOf choice records = (records ≡ choice.old) ⊎ (records ≡ choice.new)

-- The front is whole, the first n cells are certain and nothing was written after them.
pub record IsSettled (front : Front) (bank : Bank) (n : ℕ) : Type 0 where
  pub firm : bank.torn ≡ false
  pub has_front : HasFront bank front
  pub certain : AreCertain front bank.words n
  pub blank : IsBlankFrom bank.words (place front n)
  pub within : n ≤ room front bank.size

-- The front is whole, the first n cells are certain, one more may have been begun, and nothing was written after it.
pub record IsLeft (front : Front) (bank : Bank) (n : ℕ) (choice : Choice) : Type 0 where
  pub firm : bank.torn ≡ false
  pub has_front : HasFront bank front
  pub certain : AreCertain front bank.words n
  pub last : IsOpen front bank.words n
  pub blank : IsBlankFrom bank.words (place front (n + 1))
  pub within : (n < room front bank.size) ⊎ ((n ≡ room front bank.size) × IsBlankFrom bank.words (place front n))
  pub stands : IsOneOf choice (upto front bank.words n)
  pub stands_next : IsOneOf choice (upto_fence front bank.words n)

-- nothing but words in these places has changed
abbrev pub SameOutside : ℕ → ℕ → Bank → Bank → Type 0
SameOutside from to old new = (i : ℕ) → (i < from) ⊎ (to ≤ i) → new.words i ≡ old.words i

-- whether a cell counts and has this slot
abbrev pub holds : Front → (ℕ → Word) → ℕ → ℕ → Bool
holds front words k slot = counts front words k && (cell_slot front words k == slot)

-- whether one of the n cells from k on counts and has this slot
unfoldable pub holds_later : Front → (ℕ → Word) → ℕ → ℕ → ℕ → Bool
holds_later front words k zero slot = false
holds_later front words k (suc n) slot = holds front words k slot || holds_later front words (suc k) n slot

-- the first i records of the front whose slot none of the first n cells has
unfoldable pub front_kept : Front → (ℕ → Word) → ℕ → ℕ → Records
front_kept front words n zero = empty
front_kept front words n (suc i) =
    if not (holds_later front words 0 n (front_slot words i)) then insert (front_kept front words n i) (front_slot words i) (front_octets words i)
    else front_kept front words n i

-- these of the whole front, and the records of the first k cells whose slot none of the n cells has again
unfoldable pub kept : Front → (ℕ → Word) → ℕ → ℕ → Records
kept front words n zero = front_kept front words n front.count
kept front words n (suc k) =
    if counts front words k && not (holds_later front words (suc k) (n - suc k) (cell_slot front words k)) then
    insert (kept front words n k) (cell_slot front words k) (cell_octets front words k)
    else kept front words n k

-- nothing before this place has changed
abbrev pub SameBelow : ℕ → Bank → Bank → Type 0
SameBelow to old new = (i : ℕ) → i < to → new.words i ≡ old.words i

-- records of which nothing is open
abbrev pub only : Records → Choice
only records = record { old = records; new = records }

-- the first cell that a reading shows as blank, where the first n are certain
abbrev pub IsFoundBlank : Front → Bank → ℕ → ℕ → Type 0
IsFoundBlank front bank n at = ((at ≡ n) × (n < room front bank.size → bank.words (mark front n) ≡ Some erased)) ⊎ (at ≡ n + 1)

-- all cells before this one are certain, and it may be closed, since its mark was not begun
abbrev pub IsClosable : Front → Bank → ℕ → Choice → Type 0
IsClosable front bank at choice = IsLeft front bank at choice × (at < room front bank.size → bank.words (mark front at) ≡ Some erased)

-- a cell of which the close was not begun, or the fence
abbrev pub IsDecided : Front → (ℕ → Word) → ℕ → Type 0
IsDecided front words k = (words (close front k) ≡ Some erased) ⊎ (words (fence front k) ≡ Some erased)

-- the last two cells of a log are such ones: then an opening settles it in place
abbrev pub AreDecided : Front → (ℕ → Word) → ℕ → Type 0
AreDecided front words n = IsDecided front words n × ((k : ℕ) → k + 1 ≡ n → IsDecided front words k)

-- what may be left of a log without its last cell, before the first one that reads as blank
pub record IsShort (front : Front) (bank : Bank) (n at : ℕ) (choice : Choice) : Type 0 where
  pub more : 0 < at
  pub certain : AreCertain front bank.words (at - 1)
  pub within : at - 1 ≤ room front bank.size
  pub same : upto front bank.words (at - 1) ≡ upto front bank.words n
  pub stands : IsOneOf choice (upto front bank.words (at - 1))
  pub left : IsLeft front bank n choice
