-- The fields that the records of a ring and of a book have in common.
use Rattle.std.specs.Prelude.{ℕ, Bool, true, false, ◌==◌, nat_eq, if◌then◌else◌, List, ◌∷◌, drop, replicate, slice_index, Option, Some, None}
use Rattle.std.specs.Cmp.Lexicographic.{pointwise}
use Rattle.plc_base.specs.declared.key.Key.{Key}

-- whether these are this many zeros
abbrev pub are_zeros : ℕ → List ℕ → Bool
are_zeros n octets = pointwise nat_eq octets (replicate n 0)

-- the key that octets are
abbrev pub key_in : List ℕ → Key
key_in octets = record { 0 = octets }

-- whether a key is held, and the key: what is not held is zeros
abbrev pub held_in : List ℕ → Option (Option Key)
held_in octets =
    if are_zeros 17 octets then Some None
    else (if slice_index octets 0 == 1 then Some (Some (key_in (drop 1 octets))) else None)

abbrev pub held_octets : Option Key → List ℕ
held_octets None = replicate 17 0
held_octets (Some key) = 1 ∷ key.0

-- a flag
abbrev pub flag_in : ℕ → Option Bool
flag_in octet = if octet == 0 then Some false else (if octet == 1 then Some true else None)

abbrev pub flag_octet : Bool → ℕ
flag_octet flag = if flag then 1 else 0
