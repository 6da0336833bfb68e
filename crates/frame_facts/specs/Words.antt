-- Addresses in words.
use Rattle.std.specs.Prelude.{ℕ, List}
use Rattle.byteorder.specs.Endian.{big_bytes}
use Rattle.hex.specs.Hex.{encode_lower}

-- a short address, as 4 digits
abbrev pub short_word : ℕ → List ℕ
short_word address = encode_lower (big_bytes 2 address)
