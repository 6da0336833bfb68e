-- The counter of the frames that a node sends, and what its calls do to it: a numbering (`Numberings` of `store_tables`) whose
-- limit stands at slot 2, 1,024 ahead.
use Rattle.std.specs.Prelude.{ℕ, Bool, true, false, if◌then◌else◌, List, Option, None, Result, Ok, Err}
use Rattle.std.specs.Coded.{Coded}
use Rattle.plc_base.specs.Keeper.{Records, Write}
use Rattle.store_tables.specs.Numberings as numbers
use Rattle.store_tables.specs.declared.number_slot.NumberSlot.{NumberSlot}
use Rattle.plc_base.specs.declared.keeper.BadStore.{BadStore}
use Rattle.frame_counters.specs.declared.fault.CounterFault.{CounterFault}
use Rattle.frame_counters.specs.declared.fault.CounterFault.TheVariants.{Spent, Store}
use Rattle.frame_counters.specs.declared.send_counter.TheConstants.{COUNTERS_AHEAD}

-- The limit that is stored, which no counter that was given out reaches, and the counter that comes next.
abbrev pub Counting : Type 0
Counting = numbers.Counting

-- a counter's value is kept as the pair of its fields
abbrev pub counting_code : Coded Counting
counting_code = numbers.counting_code

-- where the limit is stored: 4 octets at slot 2, 0 where none is there
abbrev pub limit_at : NumberSlot
limit_at = numbers.limit_at 2 4 0

-- the slot of the limit
abbrev pub limit_slot : ℕ
limit_slot = limit_at.slot

-- the limit that the record of the slot gives: 0 where none is there, and no reading where it has not 4 octets
abbrev pub limit_in : Option (List ℕ) → Option ℕ
limit_in octets = numbers.limit_in limit_at octets

-- the limit that the records give
abbrev pub stored_limit : Records → ℕ
stored_limit records = numbers.stored_limit limit_at records

-- a counter that goes on at a limit
abbrev pub counting_at : ℕ → Counting
counting_at limit = numbers.counting_at limit

abbrev pub counting_from : Option ℕ → Result Counting BadStore
counting_from limit = numbers.counting_from limit_at limit

-- the counter that the records give
abbrev pub opened : Records → Result Counting BadStore
opened records = numbers.opened limit_at records

-- What the counter holds as stored is what the records give.
abbrev pub AgreesWith : Counting → Records → Type 0
AgreesWith counting records = numbers.AgreesWith limit_at counting records

-- The limit is that of the records from before, or what the counter holds is what the new records give.
abbrev pub IsOldLimitOrAgrees : Counting → Records → Records → Type 0
IsOldLimitOrAgrees counting old new = numbers.IsOldLimitOrAgrees limit_at counting old new

-- the put of a limit
abbrev pub limit_write : ℕ → Option Write
limit_write limit = numbers.limit_write limit_at limit

-- the next limit
abbrev pub raised : ℕ → ℕ
raised limit = numbers.raised limit_at COUNTERS_AHEAD limit

-- whether this many counters pass the limit
abbrev pub passes : Counting → ℕ → Bool
passes counting count = numbers.passes counting count

-- what is stored before this many counters are given out
abbrev pub reserve_write : Counting → ℕ → Option Write
reserve_write counting count = numbers.reserve_write limit_at COUNTERS_AHEAD counting count

-- the counter after this many were given out
abbrev pub reserved : Counting → ℕ → Counting
reserved counting count = numbers.reserved limit_at COUNTERS_AHEAD counting count

-- whether no counter is left
abbrev pub is_spent : Counting → Bool
is_spent counting = numbers.is_spent limit_at counting

-- `take` is described in three functions: what it answers, which put it makes and what the counter is afterwards; done
-- says that no put failed
abbrev pub take_result : Counting → Bool → Result ℕ CounterFault
take_result counting done =
    if is_spent counting then Err Spent else (if done then Ok counting.next else Err Store)

abbrev pub take_write : Counting → Option Write
take_write counting = if is_spent counting then None else reserve_write counting 1

abbrev pub take_after : Counting → Bool → Counting
take_after counting done =
    if is_spent counting then counting else (if done then reserved counting 1 else counting)

-- whether no put of a `take` failed
abbrev pub is_stored : Result ℕ CounterFault → Bool
is_stored (Ok number) = true
is_stored (Err Spent) = true
is_stored (Err Store) = false

-- what `preset` answers
abbrev pub preset_result : Bool → Result (Unit {0}) CounterFault
preset_result done = if done then Ok tt else Err Store
