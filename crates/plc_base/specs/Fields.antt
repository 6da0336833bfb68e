-- What stands at a place of octets. A place is counted from 0.
use Rattle.std.specs.Prelude.{◌≡◌, ◌≤◌, ◌<◌, ℕ, ◌+◌, List, ◌++◌, length, take, drop, slice_index, All}
use Rattle.byteorder.specs.Endian.{big_number, little_number}
use Rattle.plc_base.specs.declared.fields.Ended.{Ended}

-- octets are below 256
abbrev pub AreOctets : List ℕ → Type 0
AreOctets octets = All (λ x. x < 256) octets

-- the octets from a place on
unfoldable pub after : ℕ → List ℕ → List ℕ
after at octets = drop at octets

-- the octet at a place
unfoldable pub octet : ℕ → List ℕ → ℕ
octet at octets = slice_index octets at

-- the number in the two octets from a place on, the highest first
unfoldable pub two : ℕ → List ℕ → ℕ
two at octets = big_number 2 (drop at octets)

-- the number in the four octets from a place on, the highest first
unfoldable pub four : ℕ → List ℕ → ℕ
four at octets = big_number 4 (drop at octets)

-- the number in the two octets from a place on, the lowest first
unfoldable pub little_two : ℕ → List ℕ → ℕ
little_two at octets = little_number 2 (drop at octets)

-- the number in the four octets from a place on, the lowest first
unfoldable pub little_four : ℕ → List ℕ → ℕ
little_four at octets = little_number 4 (drop at octets)

-- the n octets from a place on
unfoldable pub part : ℕ → ℕ → List ℕ → List ℕ
part at n octets = take n (drop at octets)

-- the octets end before this place, where the error says
abbrev pub EndsBefore : ℕ → List ℕ → Ended → Type 0
EndsBefore end octets ended = (length octets < end) × (ended.place ≡ length octets)

-- a field's octets stand at a place, and the others after them
pub record Stands (field : List ℕ) (at : ℕ) (octets : List ℕ) : Type 0 where
  pub within : at + length field ≤ length octets
  pub parts : after at octets ≡ field ++ after (at + length field) octets
