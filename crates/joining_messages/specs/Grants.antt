-- The parameter list of a grant, and the one spelling of each.
use Rattle.std.specs.Prelude.{◌≡◌, ◌+◌, ℕ, Bool, false, List, [], ◌∷◌, ◌++◌, length, Option, Some, None, nat_lt, ◌==◌, ◌&&◌, if◌then◌else◌, ⊤}
use Rattle.byteorder.specs.Endian.{big_bytes}
use Rattle.plc_base.specs.Addresses.{IsAddress, is_address}
use Rattle.plc_base.specs.Fields.{octet, two}
use Rattle.plc_base.specs.Grant.{Granted, IsGrant}
use Rattle.plc_base.specs.declared.key.Key.{Key}

-- a place for a key is empty or has a key of 16 octets
abbrev pub IsPlace : Option Key → Type 0
IsPlace None = ⊤
IsPlace (Some key) = length key.0 ≡ 16

-- what is granted: an address, and one or two keys of which one is at the active index
pub record IsGranted (granted : Granted) : Type 0 where
  pub address : IsAddress granted.address
  pub active : IsGrant granted
  pub first : IsPlace granted.key0
  pub second : IsPlace granted.key1

-- a key's parameter, where one is held, before what follows it
abbrev pub key_then : ℕ → Option Key → List ℕ → List ℕ
key_then index None rest = rest
key_then index (Some key) rest = 3 ∷ 0x11 ∷ index ∷ key.0 ++ rest

-- the address, the active index, the keys
abbrev pub grant_spelling : Granted → List ℕ
grant_spelling grant =
    1 ∷ 2 ∷ big_bytes 2 grant.address ++ (2 ∷ 1 ∷ grant.active ∷ key_then 0 grant.key0 (key_then 1 grant.key1 []))

-- the octets are the grant's, all of them
abbrev pub SpellsGrant : Granted → List ℕ → Type 0
SpellsGrant grant octets = IsGranted grant × (octets ≡ grant_spelling grant)

-- The same as a test of the octets, field by field.

unfoldable pub stands : ℕ → ℕ → List ℕ → Bool
stands at x octets = nat_lt at (length octets) && octet at octets == x

unfoldable pub address_stands : ℕ → List ℕ → Bool
address_stands at octets = nat_lt (at + 1) (length octets) && is_address (two at octets)

unfoldable pub index_stands : ℕ → List ℕ → Bool
index_stands at octets = nat_lt at (length octets) && nat_lt (octet at octets) 2

unfoldable pub sixteen_stand : ℕ → List ℕ → Bool
sixteen_stand at octets = nat_lt (at + 15) (length octets)

-- the parameters of the address and of the active index
unfoldable pub head_stands : List ℕ → Bool
head_stands octets =
    stands 0 1 octets && (stands 1 2 octets && (address_stands 2 octets
    && (stands 4 2 octets && (stands 5 1 octets && index_stands 6 octets))))

-- the parameter of the key at an index
unfoldable pub key_stands : ℕ → ℕ → List ℕ → Bool
key_stands at index octets =
    stands at 3 octets
    && (stands (at + 1) 0x11 octets && (stands (at + 2) index octets && sixteen_stand (at + 3) octets))

-- one key, the active one, or two
abbrev pub keys_stand : List ℕ → Bool
keys_stand octets =
    if length octets == 26 then key_stands 7 (octet 6 octets) octets
    else (if length octets == 45 then key_stands 7 0 octets && key_stands 26 1 octets
    else false)

abbrev pub is_parameter_list : List ℕ → Bool
is_parameter_list octets = head_stands octets && keys_stand octets
