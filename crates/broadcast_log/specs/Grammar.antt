-- What a broadcast is, and the one spelling of each: the body of the command 04.
use Rattle.std.specs.Prelude.{◌≡◌, ◌<◌, ◌≤◌, ◌^◌, ◌%◌, ℕ, Bool, List, ◌∷◌, ◌++◌, length, nat_lt, ◌==◌, ◌&&◌}
use Rattle.byteorder.specs.Endian.{big_bytes}
use Rattle.plc_base.specs.Addresses.{IsAddress, is_address}
use Rattle.plc_base.specs.Fields.{octet, two, four}
use Rattle.broadcast_log.specs.declared.broadcast.Broadcast.{Broadcast}

-- A broadcast: 1 to 14 hops, and a datagram of 1 to 360 octets.
pub record IsBroadcast (b : Broadcast) : Type 0 where
  pub hops : (0 < b.hops) × (b.hops ≤ 14)
  pub origin : IsAddress b.origin
  pub number : b.number < 2 ^ 32
  pub some : 0 < length b.octets
  pub fits : length b.octets ≤ 360

-- what the types of a broadcast's fields leave open
pub record IsAllowed (b : Broadcast) : Type 0 where
  pub hops : (0 < b.hops) × (b.hops ≤ 14)
  pub some : 0 < length b.octets

-- The hops and the origin; 50 and the sequence number, which is LOWPAN_BC0 (RFC 4944, 11.1) with the low octet of the number;
-- the number, and the datagram.
abbrev pub spelling : Broadcast → List ℕ
spelling b =
    b.hops ∷ big_bytes 2 b.origin ++ (0x50 ∷ b.number % 256 ∷ big_bytes 4 b.number ++ b.octets)

-- the octets are the broadcast's, all of them
abbrev pub Spells : Broadcast → List ℕ → Type 0
Spells b octets = IsBroadcast b × (octets ≡ spelling b)

-- # The same as a test of the octets

-- the hops are 1 to 14
unfoldable pub hops_stand : List ℕ → Bool
hops_stand octets = nat_lt 0 (octet 0 octets) && nat_lt (octet 0 octets) 15

-- the origin is an address
unfoldable pub origin_stands : List ℕ → Bool
origin_stands octets = is_address (two 1 octets)

-- 50, and the low octet of the number after it
unfoldable pub sequence_stands : List ℕ → Bool
sequence_stands octets = octet 3 octets == 0x50 && octet 4 octets == four 5 octets % 256

-- 10 octets to 369
unfoldable pub has_length : List ℕ → Bool
has_length octets = nat_lt 9 (length octets) && nat_lt (length octets) 370

unfoldable pub is_body : List ℕ → Bool
is_body octets =
    has_length octets && (hops_stand octets && (origin_stands octets && sequence_stands octets))
