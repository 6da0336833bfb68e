-- The number of a node's next broadcast, and what giving it out does: a numbering (`Numberings` of `store_tables`) whose limit
-- stands at slot 6, 32 ahead.
use Rattle.std.specs.Prelude.{ℕ, Bool, List, Option, Result}
use Rattle.plc_base.specs.Keeper.{Records, Write}
use Rattle.store_tables.specs.Numberings as numbers
use Rattle.store_tables.specs.declared.number_slot.NumberSlot.{NumberSlot}
use Rattle.plc_base.specs.declared.keeper.BadStore.{BadStore}
use Rattle.broadcast_log.specs.declared.log.TheConstants.{BROADCASTS_AHEAD}

-- The limit that is stored, which no number that was given out reaches, and the number that comes next.
abbrev pub Numbering : Type 0
Numbering = numbers.Counting

-- where the limit is stored: 4 octets at slot 6, 0 where none is there
abbrev pub limit_at : NumberSlot
limit_at = numbers.limit_at 6 4 0

-- the slot of the limit
abbrev pub limit_slot : ℕ
limit_slot = limit_at.slot

-- the limit that the record of the slot gives: 0 where none is there, and no reading where it has not 4 octets
abbrev pub limit_in : Option (List ℕ) → Option ℕ
limit_in octets = numbers.limit_in limit_at octets

-- the numbering that the records give
abbrev pub numbering_in : Records → Result Numbering BadStore
numbering_in records = numbers.opened limit_at records

-- The limit is what the records give.
abbrev pub LimitAgrees : Numbering → Records → Type 0
LimitAgrees numbering records = numbers.AgreesWith limit_at numbering records

-- what is stored before the next number is given out: a higher limit, where the number equals the limit
abbrev pub number_put : Numbering → Option Write
number_put numbering = numbers.reserve_write limit_at BROADCASTS_AHEAD numbering 1

-- the numbering after the next number was given out
abbrev pub numbered : Numbering → Numbering
numbered numbering = numbers.reserved limit_at BROADCASTS_AHEAD numbering 1

-- whether no number is left
abbrev pub is_spent : Numbering → Bool
is_spent numbering = numbers.is_spent limit_at numbering
