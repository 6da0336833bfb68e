-- The number of the route messages that a node begins, and what its calls do to it.
use Rattle.std.specs.Prelude.{ℕ, ◌+◌, Bool, true, false, if◌then◌else◌, List, Option, Some, None, Result, Ok, Err, refl}
use Rattle.std.specs.Coded.{Coded, code_by, coded×, coded_ℕ}
use Rattle.std.specs.FinMap.{get}
use Rattle.plc_base.specs.Keeper.{Records, Write}
use Rattle.store_tables.specs.Numberings as numbers
use Rattle.store_tables.specs.declared.number_slot.NumberSlot.{NumberSlot}
use Rattle.plc_base.specs.declared.keeper.BadStore.{BadStore}
use Rattle.routing_set.specs.declared.fault.NumberFault.{NumberFault}
use Rattle.routing_set.specs.declared.fault.NumberFault.TheVariants.{SeqSpent, Store}
use Rattle.routing_set.specs.declared.own_number.TheConstants.{OWN_NUMBERS_AHEAD}

-- The limit that is stored, which no number that was given out passes, and the number that was given out last.
pub record Numbering : Type 0 where
  pub limit : ℕ
  pub last : ℕ

-- a number's value is kept as the pair of its fields
abbrev pub numbering_code : Coded Numbering
numbering_code =
    code_by (ℕ × ℕ) (coded× coded_ℕ coded_ℕ)
    (λ n. (n.limit, n.last)) (λ p. record { limit = p.0; last = p.1 }) (λ _. refl)

-- As a numbering the last number is the next one: the number that is given out is one more.
abbrev pub counting_of : Numbering → numbers.Counting
counting_of n = record { limit = n.limit; next = n.last }

abbrev pub numbering_of : numbers.Counting → Numbering
numbering_of c = record { limit = c.limit; last = c.next }

-- where the limit is stored: 2 octets at slot 3, at least 1, and 1 where none is there
abbrev pub limit_at : NumberSlot
limit_at = numbers.limit_at 3 2 1

-- the slot of the limit
abbrev pub limit_slot : ℕ
limit_slot = limit_at.slot

-- the limit that the record of the slot gives: 1 where none is there, and no reading where it has not 2 octets or is 0
abbrev pub limit_in : Option (List ℕ) → Option ℕ
limit_in octets = numbers.limit_in limit_at octets

-- a number that goes on at a limit
abbrev pub numbering_at : ℕ → Numbering
numbering_at limit = record { limit = limit; last = limit }

abbrev pub numbering_from : Option ℕ → Result Numbering BadStore
numbering_from None = Err (record { slot = limit_slot })
numbering_from (Some limit) = Ok (numbering_at limit)

-- the number that the records give
abbrev pub opened : Records → Result Numbering BadStore
opened records = numbering_from (limit_in (get records limit_slot))

-- What the number holds as stored is what the records give.
abbrev pub AgreesWith : Numbering → Records → Type 0
AgreesWith numbering records = numbers.AgreesWith limit_at (counting_of numbering) records

-- The limit is that of the records from before, or what the number holds is what the new records give.
abbrev pub IsOldLimitOrAgrees : Numbering → Records → Records → Type 0
IsOldLimitOrAgrees numbering old new = numbers.IsOldLimitOrAgrees limit_at (counting_of numbering) old new

-- the put of a limit
abbrev pub limit_write : ℕ → Option Write
limit_write limit = numbers.limit_write limit_at limit

-- the next limit
abbrev pub raised : ℕ → ℕ
raised limit = numbers.raised limit_at OWN_NUMBERS_AHEAD limit

-- whether the number after the last one passes the limit
abbrev pub passes : Numbering → Bool
passes numbering = numbers.passes (counting_of numbering) 1

-- what is stored before one number more is given out
abbrev pub advance_write : Numbering → Option Write
advance_write n = numbers.reserve_write limit_at OWN_NUMBERS_AHEAD (counting_of n) 1

-- the number after one more was given out
abbrev pub advanced : Numbering → Numbering
advanced n = numbering_of (numbers.reserved limit_at OWN_NUMBERS_AHEAD (counting_of n) 1)

-- whether no number is left
abbrev pub is_spent : Numbering → Bool
is_spent numbering = numbers.is_spent limit_at (counting_of numbering)

-- `next` is described in three functions: what it answers, which put it makes and what the number is afterwards; done says
-- that no put failed
abbrev pub next_result : Numbering → Bool → Result ℕ NumberFault
next_result numbering done =
    if is_spent numbering then Err SeqSpent else (if done then Ok (numbering.last + 1) else Err Store)

abbrev pub next_write : Numbering → Option Write
next_write numbering = if is_spent numbering then None else advance_write numbering

abbrev pub next_after : Numbering → Bool → Numbering
next_after numbering done =
    if is_spent numbering then numbering else (if done then advanced numbering else numbering)

-- whether no put of a `next` failed
abbrev pub is_stored : Result ℕ NumberFault → Bool
is_stored (Ok number) = true
is_stored (Err SeqSpent) = true
is_stored (Err Store) = false

-- what `preset` answers
abbrev pub preset_result : Bool → Result (Unit {0}) NumberFault
preset_result done = if done then Ok tt else Err Store
