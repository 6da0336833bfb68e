-- A number that has a slot of a store to itself, the highest octet first.
use Rattle.std.specs.Prelude.{◌≡◌, ◌⊎◌, ◌<◌, ℕ, ◌^◌, ◌==◌, nat_lt, if◌then◌else◌, List, length, Option, Some, None, Result, Ok, Err}
use Rattle.std.specs.FinMap.{get}
use Rattle.byteorder.specs.Endian.{big_number, big_bytes}
use Rattle.plc_base.specs.Keeper.{Records, Write, IsSlot}
use Rattle.plc_base.specs.declared.keeper.BadStore.{BadStore}
use Rattle.store_tables.specs.declared.number_slot.NumberSlot.{NumberSlot}

-- The slot is one of a store, the number has 2 or 4 octets, and the one where none is stored fits them.
pub record IsNumberSlot (at : NumberSlot) : Type 0 where
  pub slot : IsSlot at.slot
  pub width : (at.width ≡ 2) ⊎ (at.width ≡ 4)
  pub first : at.first < 256 ^ at.width

-- a number below the least one has no reading
abbrev pub reading : ℕ → ℕ → Option ℕ
reading least number = if nat_lt number least then None else Some number

-- the number that the record of the slot gives, if it has a reading
abbrev pub number_in : NumberSlot → Option (List ℕ) → Option ℕ
number_in at None = Some at.first
number_in at (Some octets) = if length octets == at.width then reading at.least (big_number at.width octets) else None

-- the number that the records give
abbrev pub stored_number : NumberSlot → Records → Option ℕ
stored_number at records = number_in at (get records at.slot)

-- the number is that of the records from before, or a new one
abbrev pub IsOldOrNewNumber : NumberSlot → ℕ → Records → Records → Type 0
IsOldOrNewNumber at number old new =
    (stored_number at new ≡ stored_number at old) ⊎ (stored_number at new ≡ Some number)

-- what a read of it answers
abbrev pub read_result : NumberSlot → Option ℕ → Result ℕ BadStore
read_result at None = Err (record { slot = at.slot })
read_result at (Some number) = Ok number

-- the put of a number
abbrev pub number_write : NumberSlot → ℕ → Write
number_write at number = record { slot = at.slot; octets = big_bytes at.width number }
