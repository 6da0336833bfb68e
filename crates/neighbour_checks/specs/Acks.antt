-- The acknowledgement of a route reply (RREP_ACK of draft-clausen-lln-loadng): the body of a command 03, and its one spelling.
use Rattle.std.specs.Prelude.{◌≡◌, ◌<◌, ◌^◌, ℕ, Bool, List, ◌∷◌, ◌++◌, length, Option, Some, None, not, ◌==◌, ◌&&◌, if◌then◌else◌}
use Rattle.byteorder.specs.Endian.{big_bytes}
use Rattle.plc_base.specs.Addresses.{IsAddress, is_address}
use Rattle.plc_base.specs.Fields.{octet, two}

-- the number of the reply, which is not 0, and the node that gave it
abbrev pub IsAck : (number origin : ℕ) → Type 0
IsAck number origin = (0 < number) × (number < 2 ^ 16) × IsAddress origin

-- the one spelling of each
abbrev pub ack_spelling : (number origin : ℕ) → List ℕ
ack_spelling number origin = 1 ∷ big_bytes 2 number ++ big_bytes 2 origin

-- the octets are the acknowledgement's, all of them
abbrev pub SpellsAck : (number origin : ℕ) → List ℕ → Type 0
SpellsAck number origin octets = IsAck number origin × (octets ≡ ack_spelling number origin)

-- The same as a test of the octets.
abbrev pub is_ack : List ℕ → Bool
is_ack octets =
    length octets == 5 && (octet 0 octets == 1 && (not (two 1 octets == 0) && is_address (two 3 octets)))

-- the number and the origin that stand in octets, if they are an acknowledgement
unfoldable pub ack_in : List ℕ → Option (ℕ × ℕ)
ack_in octets = if is_ack octets then Some (two 1 octets, two 3 octets) else None
