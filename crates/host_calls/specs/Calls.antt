-- The calls of a meter as items of octets. Numbers have their highest octet first.
use Rattle.std.specs.Prelude.{ℕ, ◌==◌, nat_lt, if◌then◌else◌, List, length, drop, slice_index, Option, Some, None}
use Rattle.std.specs.Option.{option_map, option_and_then}
use Rattle.byteorder.specs.Endian.{big_number}
use Rattle.plc_base.specs.declared.key.Key.{Key}
use Rattle.plc_base.specs.Addresses.{is_address}
use Rattle.plc_base.specs.Fields.{part}
use Rattle.plc_base.specs.Grant.{Granted, keyed}
use Rattle.host_calls.specs.declared.calls.Call.{Call}
use Rattle.host_calls.specs.declared.calls.Call.TheVariants as calls

-- # Fields

-- the number in this many octets from a place on
abbrev pub number_at : ℕ → ℕ → List ℕ → ℕ
number_at count at octets = big_number count (drop at octets)

-- a number as an address, as the cost of a link, and as the index of a group key, where it is one
abbrev pub address_of : ℕ → Option ℕ
address_of n = if is_address n then Some n else None

abbrev pub cost_of : ℕ → Option ℕ
cost_of n = if nat_lt 0 n then Some n else None

abbrev pub index_of : ℕ → Option ℕ
index_of n = if nat_lt 1 n then None else Some n

-- the grant of an address, with one group key, at an index
abbrev pub granted : ℕ → ℕ → Key → Granted
granted address index key = keyed (record { address = address; active = index; key0 = None; key1 = None }) index key

-- # The octets of each call

-- the grant of a workshop: an address, the index of the group key, the group key
abbrev pub provision_in : List ℕ → Option Call
provision_in octets =
    if length octets == 19 then option_and_then
    (λ address. option_map (λ index. calls.Provision (granted address index (record { 0 = part 3 16 octets }))) (index_of (slice_index octets 2)))
    (address_of (number_at 2 0 octets)) else None

-- a neighbour: its address, the cost of the link, the time
abbrev pub near_in : List ℕ → Option Call
near_in octets =
    if length octets == 11 then option_and_then (λ to. option_map (λ cost. calls.Near to cost (number_at 8 3 octets)) (cost_of (slice_index octets 2)))
    (address_of (number_at 2 0 octets)) else None

-- a random value
abbrev pub random_in : List ℕ → Option Call
random_in octets = if length octets == 16 then Some (calls.Random (record { 0 = part 0 16 octets })) else None

-- a joining: the agent, the time
abbrev pub join_in : List ℕ → Option Call
join_in octets = if length octets == 10 then option_map (λ agent. calls.Join agent (number_at 8 2 octets)) (address_of (number_at 2 0 octets)) else None

-- a leaving
abbrev pub leave_in : List ℕ → Option Call
leave_in octets = if length octets == 0 then Some calls.Leave else None

-- the time
abbrev pub tick_in : List ℕ → Option Call
tick_in octets = if length octets == 8 then Some (calls.Tick (number_at 8 0 octets)) else None

-- a datagram: where it is to go, its note, the time, and the datagram
abbrev pub send_in : List ℕ → Option Call
send_in octets =
    if nat_lt (length octets) 14 then None
    else option_map (λ to. calls.Send to (number_at 4 2 octets) (number_at 8 6 octets) (drop 14 octets)) (address_of (number_at 2 0 octets))

-- a frame that came: the cost of the link, its note, the time, and the frame
abbrev pub hear_in : List ℕ → Option Call
hear_in octets =
    if nat_lt (length octets) 13 then None
    else option_map (λ cost. calls.Hear cost (number_at 4 1 octets) (number_at 8 5 octets) (drop 13 octets)) (cost_of (slice_index octets 0))

-- a neighbour that does not answer
abbrev pub broke_in : List ℕ → Option Call
broke_in octets = if length octets == 2 then option_map (λ next. calls.Broke next) (address_of (number_at 2 0 octets)) else None

-- # The call of an item

-- the call of this kind with these octets, None if there is none
abbrev pub call_in : ℕ → List ℕ → Option Call
call_in kind octets =
    if kind == 0x03 then provision_in octets else
    if kind == 0x04 then near_in octets else
    if kind == 0x05 then random_in octets else
    if kind == 0x06 then join_in octets else
    if kind == 0x07 then leave_in octets else
    if kind == 0x08 then tick_in octets else
    if kind == 0x09 then send_in octets else
    if kind == 0x0A then hear_in octets else
    if kind == 0x0B then broke_in octets else None
