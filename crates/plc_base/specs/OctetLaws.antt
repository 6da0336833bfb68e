-- Numbers in fixed width are octets, and so is each part of octets.
use Rattle.std.specs.Prelude.{ℕ, ◌<◌, List}
use Rattle.byteorder.specs.Endian.{big_bytes, little_bytes}
use Rattle.plc_base.specs.Fields.{AreOctets, octet, after, part}

-- a number with its highest octet first, whatever the number
abbrev pub BigNumbersAreOctets : Type 0
BigNumbersAreOctets = (n x : ℕ) → AreOctets (big_bytes n x)

-- a number with its lowest octet first
abbrev pub LittleNumbersAreOctets : Type 0
LittleNumbersAreOctets = (n x : ℕ) → AreOctets (little_bytes n x)

-- the octet at a place
abbrev pub EachOctetFits : Type 0
EachOctetFits = (at : ℕ) (octets : List ℕ) → AreOctets octets → octet at octets < 256

-- octets from a place on
abbrev pub RestsAreOctets : Type 0
RestsAreOctets = (at : ℕ) (octets : List ℕ) → AreOctets octets → AreOctets (after at octets)

-- this many octets from a place on
abbrev pub PartsAreOctets : Type 0
PartsAreOctets = (at n : ℕ) (octets : List ℕ) → AreOctets octets → AreOctets (part at n octets)
