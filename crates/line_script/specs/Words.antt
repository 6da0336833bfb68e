-- The words of a line, and what each stands for.
use Rattle.std.specs.Prelude.{ℕ, ◌+◌, ◌*◌, ◌-◌, ◌==◌, ◌&&◌, Bool, true, false, List, [], ◌∷◌, length, take, drop, if◌then◌else◌, nat_lt, nat_le, codes, Option}
use Rattle.std.specs.Prelude.{None, Some, position}
use Rattle.std.specs.Result.{result_ok}
use Rattle.std.specs.Str.{bytes_eq}
use Rattle.hex.specs.Hex.{decode_of}
use Rattle.plc_base.specs.declared.address.Eui.{Eui}

infixl 10 ◌>>=◌
abbrev pub ◌>>=◌ : {A B : Type 0} → Option A → (A → Option B) → Option B
Some x >>= f = f x
None >>= f = None

-- A word that a space ends, and what comes after the space.
pub record Field : Type 0 where
  pub word : List ℕ
  pub rest : List ℕ

unfoldable pub field : List ℕ → Option Field
field octets = do
  at ← position (λ c. c == 32) octets
  Some (record { word = take at octets; rest = drop (at + 1) octets })

-- # Numbers

-- the number that a digit makes after n, below 2 ^ 32
abbrev pub digit_more : ℕ → ℕ → Option ℕ
digit_more n c =
    if nat_lt c 48 then None
    else if nat_lt 57 c then None
    else if nat_le 4294967296 (n * 10 + (c - 48)) then None
    else Some (n * 10 + (c - 48))

-- the number that digits make after n
abbrev pub number_from : ℕ → List ℕ → Option ℕ
number_from n [] = Some n
number_from n (c ∷ cs) = digit_more n c >>= λ m. number_from m cs

-- a number in decimal without leading zeros
unfoldable pub number : List ℕ → Option ℕ
number [] = None
number (c ∷ cs) = if c == 48 && nat_lt 0 (length cs) then None else number_from 0 (c ∷ cs)

-- a number in a range
unfoldable pub number_within : ℕ → ℕ → List ℕ → Option ℕ
number_within low high word = do
  n ← number word
  if nat_lt n low then None else if nat_lt high n then None else Some n

-- a cost: 1 to 255
unfoldable pub cost : List ℕ → Option ℕ
cost word = number_within 1 255 word

-- # Octets in hexadecimal

-- an EUI: 16 digits
unfoldable pub eui : List ℕ → Option Eui
eui word = do
  octets ← if length word == 16 then result_ok (decode_of word) else None
  Some (record { 0 = octets })

-- a key or a random value: 32 digits
unfoldable pub sixteen_octets : List ℕ → Option (List ℕ)
sixteen_octets word = if length word == 32 then result_ok (decode_of word) else None

-- 1 to 2,048 octets
unfoldable pub hex_octets : List ℕ → Option (List ℕ)
hex_octets word = if nat_lt 0 (length word) && nat_le (length word) 4096 then result_ok (decode_of word) else None

-- # Choices

-- whether a write that fails leaves the new record or the old one
unfoldable pub keeps_new : List ℕ → Option Bool
keeps_new word =
    if bytes_eq word (codes "new") then Some true
    else if bytes_eq word (codes "old") then Some false
    else None
