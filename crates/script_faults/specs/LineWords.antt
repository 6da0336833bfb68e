-- The words of a line, by the places of their octets.
use Rattle.std.specs.Prelude.{ℕ, ◌==◌, not, List, length, take, drop, min, position, unwrap_or}

-- the octets from a place on
abbrev pub rest_at : List ℕ → ℕ → List ℕ
rest_at line at = drop (min at (length line)) line

-- how many octets stand before the next space
abbrev pub word_length : List ℕ → ℕ
word_length rest = unwrap_or (position (λ c. c == 32) rest) (length rest)

-- the octets from a place on to before the next space
unfoldable pub word_at : List ℕ → ℕ → List ℕ
word_at line at = take (word_length (rest_at line at)) (rest_at line at)

-- how many spaces stand from a place on
unfoldable pub spaces_at : List ℕ → ℕ → ℕ
spaces_at line at = unwrap_or (position (λ c. not (c == 32)) (rest_at line at)) (length (rest_at line at))
