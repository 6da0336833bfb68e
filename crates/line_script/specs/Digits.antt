-- Octets in hexadecimal, by parts of 16.
use Rattle.std.specs.Prelude.{ℕ, ◌+◌, ◌*◌, ◌/◌, ◌%◌, Bool, false, ◌||◌, nat_le, List, [], ◌∷◌, ◌++◌, bit_and, bit_or}
use Rattle.hex.specs.Hex.{encode_lower, lower_digits}
use Rattle.aes_modes.specs.LookUps.{entry as entry_of}
use Rattle.line_script.specs.declared.digit_values.TheConstants.{LETTERS, LETTER_ROWS, NUMERALS, NUMERAL_ROWS}

-- entry i of a list of 16; 0 where i is not below 128
abbrev pub entry : List ℕ → ℕ → ℕ
entry t i = entry_of t i

-- the digit of the high four bits of an octet
abbrev pub high_digit : ℕ → ℕ
high_digit b = entry lower_digits (b / 16)

-- the digit of its low four bits
abbrev pub low_digit : ℕ → ℕ
low_digit b = entry lower_digits (bit_and b 15)

-- the digits of lists of octets, one after the other
abbrev pub all_digits : List (List ℕ) → List ℕ
all_digits [] = []
all_digits (octets ∷ rest) = encode_lower octets ++ all_digits rest

-- what a column and a row let through of an octet
abbrev pub chosen : List ℕ → List ℕ → ℕ → ℕ
chosen columns rows b = bit_and (entry columns (bit_and b 15)) (entry rows (b / 16))

-- the value of an octet as a digit; 32 or more where it is none
abbrev pub digit_value : ℕ → ℕ
digit_value b = bit_or (chosen LETTERS LETTER_ROWS b) (chosen NUMERALS NUMERAL_ROWS b)

-- whether one has 32 or more
abbrev pub has_mark : List ℕ → Bool
has_mark [] = false
has_mark (x ∷ xs) = nat_le 32 x || has_mark xs

-- what two values give in one lane: their sum, and the octet of which the first has the high four bits
abbrev pub lane_sum : ℕ → ℕ → ℕ
lane_sum a b = (a + b) % 256

abbrev pub lane_octet : ℕ → ℕ → ℕ
lane_octet a b = (a * 16 % 256 + b) % 256
