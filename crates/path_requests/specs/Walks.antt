-- A walk: the addresses of the nodes that an ask came by, from the one that began it on.
use Rattle.std.specs.Prelude.{ℕ, zero, suc, ◌+◌, ◌-◌, Bool, true, List, [], ◌∷◌, ◌++◌, length, slice_index, not, nat_lt, ◌==◌, ◌&&◌}
use Rattle.std.specs.List.{list_all, list_any}
use Rattle.byteorder.specs.Endian.{big_bytes}
use Rattle.plc_base.specs.Addresses.{is_address}
use Rattle.plc_base.specs.Fields.{two}

-- whether an address is in a walk
abbrev pub has : (address : ℕ) → List ℕ → Bool
has address walk = list_any (λ a. a == address) walk

-- whether no address comes twice
abbrev pub are_distinct : List ℕ → Bool
are_distinct [] = true
are_distinct (address ∷ walk) = not (has address walk) && are_distinct walk

-- addresses of nodes, no two the same
abbrev pub is_walk : List ℕ → Bool
is_walk walk = list_all is_address walk && are_distinct walk

-- whether an address is at a place of a walk, counted from 0
abbrev pub has_at : (place address : ℕ) → List ℕ → Bool
has_at place address walk = nat_lt place (length walk) && slice_index walk place == address

-- whether an address is the last of a walk
abbrev pub ends_with : (address : ℕ) → List ℕ → Bool
ends_with address walk = has_at (length walk - 1) address walk

-- the octets of a walk: two an address, the highest first
abbrev pub walk_octets : List ℕ → List ℕ
walk_octets [] = []
walk_octets (address ∷ walk) = big_bytes 2 address ++ walk_octets walk

-- the numbers in twice as many octets from a place on
abbrev pub walk_at : (count at : ℕ) → List ℕ → List ℕ
walk_at zero at octets = []
walk_at (suc count) at octets = two at octets ∷ walk_at count (at + 2) octets
