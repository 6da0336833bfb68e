-- The tag of the next datagram that is cut into pieces, which is always stored.
use Rattle.std.specs.Prelude.{◌≡◌, ℕ, ◌+◌, ◌%◌, nat_le, if◌then◌else◌, List, Option, Some, None, Result, Ok}
use Rattle.std.specs.FinMap.{get}
use Rattle.plc_base.specs.Keeper.{Records, Write}
use Rattle.store_tables.specs.NumberSlots.{number_in, read_result, number_write}
use Rattle.store_tables.specs.declared.number_slot.NumberSlot.{NumberSlot}
use Rattle.plc_base.specs.declared.keeper.BadStore.{BadStore}

-- where it is stored: 2 octets at slot 4, and 0 where none is there
abbrev pub tag_at : NumberSlot
tag_at = record { slot = 4; width = 2; first = 0; least = 0 }

-- the slot
abbrev pub tag_slot : ℕ
tag_slot = tag_at.slot

-- the tag that the record of the slot gives: 0 where none is there, and no reading where it has not 2 octets
abbrev pub tag_in : Option (List ℕ) → Result ℕ BadStore
tag_in octets = read_result tag_at (number_in tag_at octets)

-- the tag is that of the records
abbrev pub AgreesWith : ℕ → Records → Type 0
AgreesWith tag records = tag_in (get records tag_slot) ≡ Ok tag

-- the tag after this one, and 0 after the last
abbrev pub tag_after : ℕ → ℕ
tag_after tag = (tag + 1) % 65536

-- the put of the tag after this one
abbrev pub tag_write : ℕ → Write
tag_write tag = number_write tag_at (tag_after tag)

-- what is stored before a datagram of this many octets has its tag: nothing, where it goes whole
abbrev pub take_write : ℕ → ℕ → Option Write
take_write octets tag = if nat_le octets 375 then None else Some (tag_write tag)

-- the next tag then
abbrev pub tag_left : ℕ → ℕ → ℕ
tag_left octets tag = if nat_le octets 375 then tag else tag_after tag
