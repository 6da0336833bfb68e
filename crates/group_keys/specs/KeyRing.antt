-- The ring of a node: none, or its grant with the later changes.
use Rattle.std.specs.Prelude.{◌≡◌, ◌⊎◌, ℕ, Bool, true, false, ◌==◌, ◌&&◌, nat_lt, nat_le, if◌then◌else◌, List, ◌∷◌, ◌++◌, length, take, drop, replicate}
use Rattle.std.specs.Prelude.{slice_index, Option, Some, None, is_some, Result, Ok, Err}
use Rattle.std.specs.Option.{option_map, option_map_or, option_and_then}
use Rattle.std.specs.Coded.{Coded, coded_option}
use Rattle.std.specs.FinMap.{get}
use Rattle.byteorder.specs.Endian.{big_number, big_bytes}
use Rattle.plc_base.specs.Keeper.{Records, Write}
use Rattle.plc_base.specs.Grant.{Granted, granted_code, key_at, keyed}
use Rattle.plc_base.specs.declared.key.Key.{Key}
use Rattle.plc_base.specs.declared.keeper.BadStore.{BadStore}
use Rattle.group_keys.specs.Fields.{are_zeros, held_in, held_octets}
use Rattle.group_keys.specs.declared.fault.RingFault.{RingFault}
use Rattle.group_keys.specs.declared.fault.RingFault.TheVariants.{NotHeld, Store}

abbrev pub Ring : Type 0
Ring = Option Granted

abbrev pub ring_code : Coded Ring
ring_code = coded_option granted_code

-- the slot of the ring
abbrev pub ring_slot : ℕ
ring_slot = 1

-- # The record: joined, address, active index, and the two keys that may be held

abbrev pub grant_of : ℕ → ℕ → Option Key → Option Key → Option Granted
grant_of address active key0 key1 =
    if nat_lt address 0xFFFE && (nat_le active 1 && is_some (if active == 0 then key0 else key1))
    then Some (record { address = address; active = active; key0 = key0; key1 = key1 }) else None

-- the grant after the flag that says that the node has joined
abbrev pub grant_in : List ℕ → Option Granted
grant_in octets =
    option_map_or
    (λ key0. option_map_or
    (λ key1. grant_of (big_number 2 octets) (slice_index octets 2) key0 key1)
    (held_in (drop 17 (drop 3 octets))) None)
    (held_in (take 17 (drop 3 octets))) None

-- the ring that a record gives, if it has a reading: 38 zeros, or 1 and a grant
abbrev pub ring_in : List ℕ → Option Ring
ring_in octets =
    if are_zeros 38 octets then Some None
    else (if length octets == 38 && slice_index octets 0 == 1 then option_map Some (grant_in (drop 1 octets)) else None)

abbrev pub ring_octets : Ring → List ℕ
ring_octets None = replicate 38 0
ring_octets (Some g) = 1 ∷ (big_bytes 2 g.address ++ (g.active ∷ (held_octets g.key0 ++ held_octets g.key1)))

-- # The store

-- the ring that the slot gives: none where it is empty
abbrev pub ring_at : Option (List ℕ) → Option Ring
ring_at None = Some None
ring_at (Some octets) = ring_in octets

abbrev pub ring_from : Option Ring → Result Ring BadStore
ring_from None = Err (record { slot = ring_slot })
ring_from (Some ring) = Ok ring

-- the ring that the records give
abbrev pub opened : Records → Result Ring BadStore
opened records = ring_from (ring_at (get records ring_slot))

-- What the ring holds is what the records give.
pub record AgreesWith (ring : Ring) (records : Records) : Type 0 where
  pub stored : ring_at (get records ring_slot) ≡ Some ring

-- the slot gives the ring that it gave in the records from before, or this one
abbrev pub IsOldOrNewRing : Ring → Records → Records → Type 0
IsOldOrNewRing ring old new =
    (ring_at (get new ring_slot) ≡ ring_at (get old ring_slot)) ⊎ (ring_at (get new ring_slot) ≡ Some ring)

-- The same, where what the ring holds is what the new records give.
abbrev pub IsOldRingOrAgrees : Ring → Records → Records → Type 0
IsOldRingOrAgrees ring old new = (ring_at (get new ring_slot) ≡ ring_at (get old ring_slot)) ⊎ AgreesWith ring new

-- the put of a ring
abbrev pub ring_write : Ring → Option Write
ring_write ring = Some (record { slot = ring_slot; octets = ring_octets ring })

-- # What the calls say

-- the key at an index
abbrev pub key_in_ring : Ring → ℕ → Option Key
key_in_ring ring index = option_and_then (λ g. key_at g index) ring

-- the ring with a key
abbrev pub with_key : Ring → ℕ → Key → Ring
with_key ring index key = option_map (λ g. keyed g index key) ring

-- the ring with another active key
abbrev pub with_active : Ring → ℕ → Ring
with_active ring index = option_map {T = Granted} (λ g. record g { active = index }) ring

-- what a call answers whose only error is a failed put
abbrev pub stored_result : Bool → Result (Unit {0}) RingFault
stored_result done = if done then Ok tt else Err Store

-- `activate` in three functions: what it answers, which put it makes and what the ring is afterwards; done says that no
-- put failed
abbrev pub activate_result : Ring → ℕ → Bool → Result (Unit {0}) RingFault
activate_result ring index done = if is_some (key_in_ring ring index) then stored_result done else Err NotHeld

abbrev pub activate_write : Ring → ℕ → Option Write
activate_write ring index = if is_some (key_in_ring ring index) then ring_write (with_active ring index) else None

abbrev pub activate_after : Ring → ℕ → Bool → Ring
activate_after ring index done =
    if is_some (key_in_ring ring index) then (if done then with_active ring index else ring) else ring

-- whether no put of a call failed
abbrev pub is_stored : Result (Unit {0}) RingFault → Bool
is_stored (Ok u) = true
is_stored (Err NotHeld) = true
is_stored (Err Store) = false
