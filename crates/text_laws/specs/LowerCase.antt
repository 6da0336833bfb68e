-- Lines with their octets in lower case.
use Rattle.std.specs.Prelude.{ℕ, ◌==◌, List, map, if◌then◌else◌}
use Rattle.std.specs.Char.{to_ascii_lowercase}
use Rattle.std.specs.List.{join_with_byte, list_all, slice_split}
use Rattle.hex.specs.Hex.{is_hex_digit}

-- a word of hexadecimal digits in lower case, and another word as it is: the word of a kind in upper case is none of a line
unfoldable pub lower_word : List ℕ → List ℕ
lower_word word = if list_all is_hex_digit word then map to_ascii_lowercase word else word

-- a line with its words of hexadecimal digits in lower case: what is between two spaces is a word
unfoldable pub lower_line : List ℕ → List ℕ
lower_line octets = join_with_byte 32 (map lower_word (slice_split (λ c. c == 32) octets))
