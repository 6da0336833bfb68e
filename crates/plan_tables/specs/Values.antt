-- Values as numbers: times in seconds, chances in ten-thousandths.
use Rattle.std.specs.Prelude.{ℕ, ◌+◌, ◌*◌, ◌-◌, ◌==◌, ℤ, pos, negsuc, List, [], ◌∷◌, length, take, drop, get_or, if◌then◌else◌, nat_lt}
use Rattle.std.specs.Prelude.{Option, None, Some, position, Float}
use Rattle.std.specs.Float.Ieee
use Rattle.std.specs.Float.{binary64, float_to_unsigned}
use Rattle.std.specs.Int.{w64}
use Rattle.plan_tables.specs.declared.values.TheConstants.{HUNDRED, HALF}
use Rattle.toml.specs.Data.{Data, as_str, as_integer, as_float}

infixl 10 ◌>>=◌
abbrev pub ◌>>=◌ : {A B : Type 0} → Option A → (A → Option B) → Option B
Some x >>= f = f x
None >>= f = None

-- what is at most this much
abbrev pub up_to : ℕ → ℕ → Option ℕ
up_to most n = if nat_lt most n then None else Some n

-- # Numbers in decimal digits

-- the number that a digit makes after n, where n has at most eight digits
abbrev pub digit_more : ℕ → ℕ → Option ℕ
digit_more n c =
    if nat_lt c 48 then None
    else if nat_lt 57 c then None
    else if nat_lt 99999999 n then None
    else Some (n * 10 + (c - 48))

-- the number that digits make after n
abbrev pub number_from : ℕ → List ℕ → Option ℕ
number_from n [] = Some n
number_from n (c ∷ cs) = digit_more n c >>= λ m. number_from m cs

-- a number of nine digits at most, leading zeros aside
unfoldable pub number_of : List ℕ → Option ℕ
number_of digits = if length digits == 0 then None else number_from 0 digits

-- # Times

-- minutes or seconds of a clock time
unfoldable pub sixty : List ℕ → Option ℕ
sixty digits = number_of digits >>= up_to 59

-- minutes, and seconds that may follow after a colon (58)
abbrev pub clock_rest : ℕ → Option ℕ → List ℕ → Option ℕ
clock_rest h None rest = sixty rest >>= λ m. Some (h * 3600 + m * 60)
clock_rest h (Some at) rest = do
  m ← sixty (take at rest)
  s ← sixty (drop (at + 1) rest)
  Some (h * 3600 + m * 60 + s)

unfoldable pub clock_time : List ℕ → List ℕ → Option ℕ
clock_time hours rest = number_of hours >>= λ h. clock_rest h (position (λ c. c == 58) rest) rest

-- the seconds of a unit: s, m, h, d
abbrev pub unit : ℕ → Option ℕ
unit c =
    if c == 115 then Some 1
    else if c == 109 then Some 60
    else if c == 104 then Some 3600
    else if c == 100 then Some 86400
    else None

-- a number with a unit, its last letter
unfoldable pub timed : List ℕ → Option ℕ
timed octets = if length octets == 0 then None else do
  seconds ← unit (get_or octets (length octets - 1) 0)
  n ← number_of (take (length octets - 1) octets)
  Some (n * seconds)

abbrev pub time_by : Option ℕ → List ℕ → Option ℕ
time_by None text = timed text
time_by (Some at) text = clock_time (take at text) (drop (at + 1) text)

-- a time in a text: a clock time where it has a colon
unfoldable pub seconds_of : List ℕ → Option ℕ
seconds_of text = time_by (position (λ c. c == 58) text) text

-- a number from 0 on
abbrev pub from_zero : ℤ → Option ℕ
from_zero (pos n) = Some n
from_zero (negsuc n) = None

unfoldable pub whole_number : Data → Option ℕ
whole_number d = as_integer d >>= from_zero

unfoldable pub number_up_to : ℕ → Data → Option ℕ
number_up_to most d = whole_number d >>= up_to most

unfoldable pub number_from_one_to : ℕ → Data → Option ℕ
number_from_one_to most d = number_up_to most d >>= λ n. if n == 0 then None else Some n

-- 400 days
abbrev pub longest : ℕ
longest = 34560000

abbrev pub seconds_by : Option (List ℕ) → Data → Option ℕ
seconds_by (Some text) d = seconds_of text
seconds_by None d = whole_number d

unfoldable pub seconds_in : Data → Option ℕ
seconds_in d = seconds_by (as_str d) d >>= up_to longest

-- # Chances

-- one or two decimals, as hundredths
unfoldable pub decimals : List ℕ → Option ℕ
decimals digits =
    if length digits == 1 then (number_of digits >>= λ n. Some (n * 10))
    else if length digits == 2 then number_of digits
    else None

abbrev pub hundredths_by : Option ℕ → List ℕ → Option ℕ
hundredths_by None text = number_of text >>= λ n. Some (n * 100)
hundredths_by (Some at) text = do
  n ← number_of (take at text)
  part ← decimals (drop (at + 1) text)
  Some (n * 100 + part)

-- a number with at most two decimals after a point (46), in hundredths
unfoldable pub hundredths_of : List ℕ → Option ℕ
hundredths_of text = hundredths_by (position (λ c. c == 46) text) text

-- the nearest number of hundredths, where the float is the one nearest to it
unfoldable pub float_hundredths : Float → Option ℕ
float_hundredths x =
    let n = float_to_unsigned w64 (Ieee.add binary64 (Ieee.mul binary64 x HUNDRED) HALF) in
    if Ieee.eq (Ieee.div binary64 (Ieee.of_int binary64 (pos n)) HUNDRED) x then Some n else None

unfoldable pub whole_hundredths : Data → Option ℕ
whole_hundredths d = whole_number d >>= up_to 100 >>= λ n. Some (n * 100)

abbrev pub chance_by : Option (List ℕ) → Option Float → Data → Option ℕ
chance_by (Some text) x d = hundredths_of text
chance_by None (Some x) d = float_hundredths x
chance_by None None d = whole_hundredths d

unfoldable pub hundredths_in : Data → Option ℕ
hundredths_in d = chance_by (as_str d) (as_float d) d

-- per cent, as ten-thousandths
unfoldable pub chance_in : Data → Option ℕ
chance_in d = hundredths_in d >>= up_to 10000
