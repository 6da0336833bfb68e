-- What a bank in memory shows.
use Rattle.std.specs.Prelude.{ℕ, zero, suc, Bool, List, [], ◌∷◌, Some, None, length, if◌then◌else◌}
use Rattle.flash_keeper.specs.Flash.{Word, Bank, erased}
use Rattle.flash_keeper.specs.declared.model_flash.ModelWord.{ModelWord}

abbrev pub word_of : ModelWord → Word
word_of w = if w.torn then None else Some w.value

unfoldable pub shown : List ModelWord → ℕ → Word
shown [] i = Some erased
shown (w ∷ words) zero = word_of w
shown (w ∷ words) (suc i) = shown words i

-- how often a word was programmed since it was erased
unfoldable pub counted : List ModelWord → ℕ → ℕ
counted [] i = 0
counted (w ∷ words) zero = w.programs
counted (w ∷ words) (suc i) = counted words i

abbrev pub bank_of : List ModelWord → Bool → Bank
bank_of words torn = record { size = length words; torn = torn; words = shown words; programs = counted words }
