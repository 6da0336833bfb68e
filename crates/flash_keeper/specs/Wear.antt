-- How often the words of two banks were programmed since each was erased, beside how often they are in the life of a store in which nothing fails.
use Rattle.std.specs.Prelude.{◌≡◌, ◌⊎◌, ℕ, zero, suc, ◌≤◌, ◌<◌, ◌+◌, ◌-◌, ◌==◌, max, Bool, true, false, not, ◌&&◌, ◌||◌, if◌then◌else◌, Some, None}
use Rattle.flash_keeper.specs.Flash.{Word, Bank}
use Rattle.flash_keeper.specs.Records.{begun}
use Rattle.flash_keeper.specs.Front.{front_in}
use Rattle.flash_keeper.specs.Log.{place, mark, close, room}
use Rattle.flash_keeper.specs.declared.front.Front.{Front}

-- whether each bit of a word was programmed, and it reads so each time
unfoldable pub is_zero : Word → Bool
is_zero (Some n) = n == 0
is_zero None = false

unfoldable pub one_if : Bool → ℕ
one_if true = 1
one_if false = 0

-- whether the mark or the close of a cell is done
abbrev pub is_done : Front → (ℕ → Word) → ℕ → Bool
is_done front words k = is_zero (words (mark front k)) || is_zero (words (close front k))

-- How often each word of a cell may have been programmed: once where its mark or its close is done, and once more by the opening that then closed the
-- cell after it.
unfoldable pub cell_share : Front → (ℕ → Word) → ℕ → ℕ
cell_share front words k = one_if (is_done front words k || is_done front words (k + 1)) + one_if (is_done front words (k + 1))

-- 1 where it is noted in a spare bank that its head is firmly 0 and the mark of the live one firm: then an opening has programmed these words
-- once more, and no other does
abbrev pub noted : Bank → ℕ
noted bank = one_if (is_zero (bank.words 1))

-- Each word behind the head of a live bank was programmed at most so much oftener: once those of its front and of the number of its records, which the
-- copy wrote; each of a cell as often as its share; and those behind the last cell never.
pub record IsWornLog (front : Front) (more : ℕ) (bank : Bank) : Type 0 where
  pub records : (i : ℕ) → 3 ≤ i → i < 4 + front.words → bank.programs i ≤ more + 1
  pub cells : (k j : ℕ) → k < room front bank.size → j < 12 → bank.programs (place front k + j) ≤ more + cell_share front bank.words k
  pub rest : (i : ℕ) → place front (room front bank.size) ≤ i → i < bank.size → bank.programs i ≤ more

-- and so was each word of the head: of a live bank, beside a spare one with this note,
pub record IsWornLive (front : Front) (more note : ℕ) (bank : Bank) : Type 0 where
  pub head : bank.programs 0 ≤ more + 1
  pub number : bank.programs 1 ≤ more + 1
  pub mark : bank.programs 2 ≤ more + 1 + note
  pub log : IsWornLog front more bank

-- and of a spare one, which was retired, whatever its front was
pub record IsWornSpare (more : ℕ) (bank : Bank) : Type 0 where
  pub head : bank.programs 0 ≤ more + 2 + noted bank
  pub number : bank.programs 1 ≤ more + 1 + noted bank
  pub mark : bank.programs 2 ≤ more + 2
  pub others : (i : ℕ) → 3 ≤ i → i < bank.size → bank.programs i ≤ more + 2

pub record AreWorn (front : Front) (more : ℕ) (live spare : Bank) : Type 0 where
  pub live_is : IsWornLive front more (noted spare) live
  pub spare_is : IsWornSpare more spare

-- the most by which the n words from a place on are past a share
unfoldable pub words_past : (ℕ → ℕ) → ℕ → ℕ → ℕ → ℕ
words_past programs share at zero = 0
words_past programs share at (suc n) = max (words_past programs share at n) (programs (at + n) - share)

-- and the words of the first n cells past theirs
unfoldable pub cells_past : Front → Bank → ℕ → ℕ
cells_past front bank zero = 0
cells_past front bank (suc k) =
    max (cells_past front bank k) (words_past bank.programs (cell_share front bank.words k) (place front k) 12)

-- and each word behind the head of a live bank
unfoldable pub log_past : Front → Bank → ℕ
log_past front bank =
    let end = place front (room front bank.size) in
    max (words_past bank.programs 1 3 (1 + front.words))
    (max (cells_past front bank (room front bank.size)) (words_past bank.programs 0 end (bank.size - end)))

unfoldable pub live_past : Front → ℕ → Bank → ℕ
live_past front note bank =
    max (max (bank.programs 0 - 1) (bank.programs 1 - 1)) (max (bank.programs 2 - (1 + note)) (log_past front bank))

unfoldable pub spare_past : Bank → ℕ
spare_past bank =
    max (max (bank.programs 0 - (2 + noted bank)) (bank.programs 1 - (1 + noted bank)))
    (max (bank.programs 2 - 2) (words_past bank.programs 2 3 (bank.size - 3)))

-- the most by which a word is past its share, where the first bank is the live one, and has this front
unfoldable pub worn_as : Front → Bank → Bank → ℕ
worn_as front live spare = max (live_past front (noted spare) live) (spare_past spare)

-- whether no reading takes a bank for a live one
unfoldable pub is_dead : Bank → Bool
is_dead bank = is_zero (bank.words 0) || (not bank.torn && not (begun (bank.words 2)))

-- and where that bank may be read as the live one
unfoldable pub worn_if : Bank → Bank → ℕ
worn_if live spare = if is_dead live then 0 else worn_as (front_in live) live spare

-- The most by which a word of two banks, in either order, was programmed oftener since the erase of its bank than in a life in which nothing fails.
abbrev pub worn_of : Bank → Bank → ℕ
worn_of first second = max (worn_if first second) (worn_if second first)

-- the same of two banks of which it is known that the first one is live, and has this front
abbrev pub worn_with : Front → Bank → Bank → ℕ
worn_with front live spare = max (worn_as front live spare) (worn_if spare live)

-- No word of a bank was programmed oftener since its erase than that: three times the one by which it is retired, and twice each other one; and so
-- much oftener.
pub record AreProgrammed (more : ℕ) (bank : Bank) : Type 0 where
  pub head : bank.programs 0 ≤ 3 + more
  pub others : (i : ℕ) → 0 < i → i < bank.size → bank.programs i ≤ 2 + more

-- what programs of these places have added: at most one to each of them, and none to others
pub record Counts (from to : ℕ) (old new : Bank) : Type 0 where
  pub once : (i : ℕ) → new.programs i ≤ old.programs i + 1
  pub outside : (i : ℕ) → (i < from) ⊎ (to ≤ i) → new.programs i ≡ old.programs i

-- what is done stays done
pub record Keeps (front : Front) (old new : Bank) : Type 0 where
  pub size : new.size ≡ old.size
  pub note : is_zero (old.words 1) ≡ true → is_zero (new.words 1) ≡ true
  pub done : (k : ℕ) → is_done front old.words k ≡ true → is_done front new.words k ≡ true
